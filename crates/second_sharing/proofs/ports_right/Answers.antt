-- `ports_right` looks at every port. Assumes nothing.
use Rattle.std.proofs.Common.{refl, ◌∙◌, rules, tests}
use Rattle.std.proofs.lemmas.Iterator.{YieldsList-from_range}
use Rattle.std.proofs.lemmas.Iterator.Search.{all_from_yields_List}
use Rattle.ill.proofs.Ranges.{every_range}
use Rattle.second_sharing.specs.Shared.{port_right, ports_right}
use Rattle.second_sharing.proofs.ports_right.Goals as goal

pub returns : goal.returns
unfolding ports_right
returns c =
    let a = c.args in
    all_from_yields_List (port_right a.before.now a.after.now a.first) _ _ _ c.all.ensures.ran (YieldsList-from_range 0 48 48 refl refl) (λ x b q k. search (rules, tests)) ∙ every_range 48 _
