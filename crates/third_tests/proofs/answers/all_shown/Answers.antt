-- `all_shown` looks at every place. Assumes nothing.
use Rattle.std.proofs.Common.{ℕ, ◌+◌, not, ◌||◌, eqb, get_or, refl, ◌∙◌, rules, tests}
use Rattle.std.proofs.lemmas.Iterator.{YieldsList-from_range}
use Rattle.std.proofs.lemmas.Iterator.Search.{all_from_yields_List}
use Rattle.third_tests.proofs.Ranges.{every_range}
use Rattle.third_tests.specs.Answers.{closed_in, all_shown_in}
use Rattle.third_tests.proofs.answers.all_shown.Goals as goal

pub returns : goal.returns
unfolding all_shown_in
returns c =
    let a = c.args in
    all_from_yields_List (λ (p : ℕ). (not (closed_in a.answer p) || eqb (get_or a.cells.now (8 + p) 0) 8) || eqb (get_or a.shown.now p 0) 3) _ _ _ c.all.ensures.ran (YieldsList-from_range 0 48 48 refl refl) (λ x b q k. search (rules, tests)) ∙ every_range 48 _
