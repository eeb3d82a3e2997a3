-- `flags_clear` looks at every port's flags. Assumes nothing.
use Rattle.std.proofs.Common.{ℕ, ◌+◌, ◌*◌, ◌&&◌, eqb, ltb, get_or, refl, ◌∙◌, arith, rules, tests}
use Rattle.std.proofs.lemmas.Iterator.{YieldsList-from_range}
use Rattle.std.proofs.lemmas.Iterator.Search.{all_from_yields_List}
use Rattle.third_tests.proofs.Ranges.{every_range}
use Rattle.third_tests.specs.Asks.{flags_clear}
use Rattle.third_tests.proofs.asked.flags_clear.Goals as goal

pub returns : goal.returns
unfolding flags_clear
returns c =
    let b = c.args.block.now in
    let n = c.args.ports in
    all_from_yields_List (λ (p : ℕ). eqb (get_or b (14 * p + 12) 0) 0 && ltb (get_or b (14 * p + 13) 0) 64) _ _ _ c.all.ensures.ran (YieldsList-from_range 0 n n refl (omega arith)) (λ x b q k. search (rules, tests)) ∙ every_range n _
