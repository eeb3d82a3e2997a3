-- `demands_with` is `closed_sum` with the change: the sum is that of the ports below p. Assumes nothing.
use Rattle.std.proofs.Common.{◌≡◌, ℕ, ◌+◌, cond, get_or, refl, sym, ◌∙◌, ap, arith}
use Rattle.lists.specs.Total.{total}
use Rattle.lists.proofs.Total.{total_next}
use Rattle.power.specs.Power.{tenths}
use Rattle.port.specs.States.{closed}
use Rattle.table.specs.Drawn.{closed_sum}
use Rattle.table.specs.Parts.{with_port}
use Rattle.cells.specs.Cells.{count_cell, table_of}
use Rattle.cells.specs.Codes.{state_of}
use Rattle.replies.proofs.OnLaws.{draws_with}
use Rattle.order.proofs.Order.{draws_at}
use Rattle.order.proofs.power_request.demands_with.Goals as goal

pub loop-p-init : goal.loop-p-init
unfolding total
loop-p-init c = (refl, omega arith)

pub overflow_add-sum : goal.overflow_add-sum
overflow_add-sum c = omega (arith, c.drawn-sum.ensures.1)

pub loop-p-preserved : goal.loop-p-preserved
loop-p-preserved c =
    let k = c.loop-p in
    let a = c.args in
    let l = a.cells.now in
    let f = draws_at l a.level a.at in (
      ap (λ (x : ℕ). k.sum + x) (c.drawn-sum.ensures.0 ∙ ap (λ (x : ℕ). cond (closed (state_of (get_or l (8 + k.p) 0))) x 0) c.pick.ensures ∙ sym (draws_with l (tenths a.level) a.at k.p (omega arith)))
          ∙ ap (λ (x : ℕ). x + f k.p) k.invariant.0 ∙ sym (total_next k.p f),
      omega (arith, c.drawn-sum.ensures.1),
    )

pub returns : goal.returns
unfolding closed_sum with_port table_of
returns c =
    let a = c.args in
    let k = c.loop-p in
    let e : k.p ≡ count_cell a.cells.now = omega arith in
    k.invariant.0 ∙ ap (λ (n : ℕ). total n (draws_at a.cells.now a.level a.at)) e
