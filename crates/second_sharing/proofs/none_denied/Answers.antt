-- `none_denied` looks at every port. Assumes nothing.
use Rattle.std.proofs.Common.{ℕ, not, refl, ◌∙◌, rules, tests}
use Rattle.std.proofs.lemmas.Iterator.{YieldsList-from_range}
use Rattle.std.proofs.lemmas.Iterator.Search.{all_from_yields_List}
use Rattle.ill.proofs.Ranges.{every_range}
use Rattle.second_sharing.specs.Shared.{denied_cell, none_denied}
use Rattle.second_sharing.proofs.none_denied.Goals as goal

pub returns : goal.returns
unfolding none_denied
returns c =
    all_from_yields_List (λ (p : ℕ). not (denied_cell c.args.cells.now p)) _ _ _ c.all.ensures.ran (YieldsList-from_range 0 48 48 refl refl) (λ x b q k. search (rules, tests)) ∙ every_range 48 _
