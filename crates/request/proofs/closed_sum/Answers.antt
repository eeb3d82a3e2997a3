-- Each port below the count draws what `draws_with` says. Assumes nothing.
use Rattle.std.proofs.Common.{◌≡◌, refl, sym, ◌∙◌, ap, cond, eqb, ℕ, ◌+◌, get_or, arith}
use borrow.Author.Tests.{eq-eqb, ne_eqb}
use Rattle.lists.specs.Total.{total}
use Rattle.lists.proofs.Total.{total_next}
use Rattle.power.specs.Power.{sum_of}
use Rattle.port.specs.States.{closed}
use Rattle.table.specs.Drawn.{draws, closed_sum}
use Rattle.table.specs.Parts.{port_at, with_port}
use Rattle.cells.specs.Cells.{count_cell, table_of}
use Rattle.cells.specs.Codes.{state_of}
use Rattle.replies.specs.Calls.{granting}
use Rattle.replies.proofs.OnLaws.{draws_with}
use Rattle.request.proofs.closed_sum.Goals as goal
use Rattle.request.proofs.closed_sum.Goals.{then-p-at, else-p-at}

pub loop-p-init : goal.loop-p-init
unfolding total
loop-p-init c = (refl, omega arith)

pub loop-p-preserved : goal.loop-p-preserved
loop-p-preserved c =
    let k = c.loop-p in
    let a = c.args in
    let l = a.cells.now in
    let f : ℕ → ℕ = λ q. draws (port_at (granting a.demand a.at (table_of l)) q) in
    let d : c.if-p-at.demanded ≡ cond (eqb k.p a.at) a.demand.0 (get_or l (104 + k.p) 0) =
    elim c.if-p-at.branch [ then-p-at w ↦ w.demanded-is ∙ simp (eq-eqb _ _ w.if-p-at.true) | else-p-at w ↦ w.demanded-is ∙ simp (ne_eqb _ _ w.if-p-at.false) ] in (
      ap (λ (x : ℕ). k.sum + x) (c.drawn-sum.ensures.0 ∙ ap (λ (x : ℕ). cond (closed (state_of (get_or l (8 + k.p) 0))) x 0) d ∙ sym (draws_with l a.demand a.at k.p (omega arith)))
          ∙ ap (λ (x : ℕ). x + f k.p) k.invariant.0 ∙ sym (total_next k.p f),
      omega (arith, c.drawn-sum.ensures.1),
    )

pub returns : goal.returns
unfolding closed_sum with_port table_of
returns c =
    let k = c.loop-p in
    let e : k.p ≡ count_cell c.args.cells.now = omega arith in
    ap sum_of (k.invariant.0 ∙ ap (λ (n : ℕ). total n (λ q. draws (port_at (granting c.args.demand c.args.at (table_of c.args.cells.now)) q))) e)
