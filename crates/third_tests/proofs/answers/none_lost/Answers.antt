-- `none_lost` looks at every place. Assumes nothing.
use Rattle.std.proofs.Common.{ℕ, not, ◌||◌, refl, ◌∙◌, rules, tests}
use Rattle.std.proofs.lemmas.Iterator.{YieldsList-from_range}
use Rattle.std.proofs.lemmas.Iterator.Search.{all_from_yields_List}
use Rattle.third_tests.proofs.Ranges.{every_range}
use Rattle.third_tests.specs.Answers.{closed_in, none_lost_in}
use Rattle.third_tests.proofs.answers.none_lost.Goals as goal

pub returns : goal.returns
unfolding none_lost_in
returns c =
    all_from_yields_List (λ (p : ℕ). not (closed_in c.args.first p) || closed_in c.args.second p) _ _ _ c.all.ensures.ran (YieldsList-from_range 0 48 48 refl refl) (λ x b q k. search (rules, tests)) ∙ every_range 48 _
