-- `asked` is what the demand asks. Assumes nothing.
use Rattle.std.proofs.Common.{◌≡◌, ℕ, ◌≤◌, true, false, ◌||◌, ltb, ◌∙◌, arith}
use borrow.Author.Tests.{ltb-false, eq-eqb, ne_eqb}
use Rattle.lists.proofs.Tests.{fails_right}
use Rattle.third_tests.specs.Asks.{asks}
use Rattle.third_tests.proofs.Asks.{range_is}
use Rattle.third_tests.proofs.asked.asked.Goals as goal

few : (n : ℕ) → (ltb n 1 || ltb 48 n) ≡ false → n ≤ 48
few n e = ltb-false _ _ (fails_right (ltb n 1) (ltb 48 n) e)

pub returns-then-ports : goal.returns-then-ports
unfolding asks
returns-then-ports c = let n = c.args.ports in simp (range_is n 1 48 n true c.if-ports.true)

pub returns-then-more-less : goal.returns-then-more-less
unfolding asks
returns-then-more-less c = let a = c.args in simp (range_is a.ports 1 48 a.ports false c.if-ports.false, range_is a.more a.less 60000 a.more true c.if-more-less.true)

pub returns-then-block-ports : goal.returns-then-block-ports
unfolding asks
returns-then-block-ports c =
    let a = c.args in
    simp (range_is a.ports 1 48 a.ports false c.if-ports.false, range_is a.more a.less 60000 a.more false c.if-more-less.false, ne_eqb _ _ c.if-block-ports.true)

pub overflow_mul-ports : goal.overflow_mul-ports
overflow_mul-ports c = omega (arith, few c.args.ports c.if-ports.false)

pub flags_clear-requires : goal.flags_clear-requires
flags_clear-requires c = (few c.args.ports c.if-ports.false, c.if-block-ports.false)

pub returns : goal.returns
unfolding asks
returns c =
    let a = c.args in
    c.flags_clear.ensures ∙ simp (range_is a.ports 1 48 a.ports false c.if-ports.false, range_is a.more a.less 60000 a.more false c.if-more-less.false, eq-eqb _ _ c.if-block-ports.false)
