-- `kept_sum` adds up the closed ports. Assumes nothing.
use Rattle.std.proofs.Common.{◌≡◌, ℕ, ◌+◌, refl, sym, ◌∙◌, ap, ap₂, arith}
use Rattle.lists.specs.Total.{total}
use Rattle.lists.proofs.Total.{total_next}
use Rattle.second_sharing.specs.Shared.{kept_cells}
use Rattle.second_sharing.proofs.Shared.{drawn_at}
use Rattle.second_sharing.proofs.kept_sum.Goals as goal

pub loop-p-init : goal.loop-p-init
unfolding total
loop-p-init c = (refl, omega arith)

pub overflow_add-sum : goal.overflow_add-sum
overflow_add-sum c = omega (arith, c.drawn-sum.ensures.1)

pub loop-p-preserved : goal.loop-p-preserved
loop-p-preserved c =
    let l = c.loop-p in
    let f = drawn_at c.args.cells.now in
    (ap₂ ◌+◌ l.invariant.0 c.drawn-sum.ensures.0 ∙ sym (total_next l.p f), omega (arith, c.drawn-sum.ensures.1))

pub returns : goal.returns
unfolding kept_cells
returns c =
    let l = c.loop-p in
    let e : l.p ≡ 48 = omega arith in
    (l.invariant.0 ∙ ap (λ (k : ℕ). total k (drawn_at c.args.cells.now)) e, omega arith)
