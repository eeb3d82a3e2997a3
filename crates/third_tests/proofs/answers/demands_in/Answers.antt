-- `demands_in` adds up the places, each less than 2^16. Assumes nothing.
use Rattle.std.proofs.Common.{◌≡◌, ℕ, ◌+◌, cond, get_or, refl, sym, ◌∙◌, ap, arith}
use Rattle.lists.specs.Total.{total}
use Rattle.lists.proofs.Total.{total_next}
use Rattle.third_tests.specs.Answers.{closed_in, demands_in}
use Rattle.third_tests.proofs.Means.{drawn_at}
use Rattle.third_tests.proofs.answers.demands_in.Goals as goal
use Rattle.third_tests.proofs.answers.demands_in.Goals.{then-closed_in, else-closed_in}

pub loop-p-init : goal.loop-p-init
unfolding total
loop-p-init c = (refl, omega arith)

pub loop-p-preserved : goal.loop-p-preserved
loop-p-preserved c =
    let k = c.loop-p in
    let l = c.args.cells.now in
    let x = c.args.answer in
    let f = drawn_at l x in
    let t = total_next k.p f in
    elim c.if-closed_in.branch [
      | then-closed_in w ↦
          let e : cond (closed_in x k.p) (get_or l (104 + k.p) 0) 0 ≡ get_or l (104 + k.p) 0 = simp (sym c.closed_in.ensures ∙ w.if-closed_in.true) in
          (omega arith, omega (arith, c.fits-cells (104 + k.p)))
      | else-closed_in w ↦
          let e : cond (closed_in x k.p) (get_or l (104 + k.p) 0) 0 ≡ 0 = simp (sym c.closed_in.ensures ∙ w.if-closed_in.false) in
          (omega arith, omega arith)
    ]

pub returns : goal.returns
unfolding demands_in
returns c =
    let k = c.loop-p in
    let e : k.p ≡ 48 = omega arith in
    k.invariant.0 ∙ ap (λ (n : ℕ). total n (drawn_at c.args.cells.now c.args.answer)) e
