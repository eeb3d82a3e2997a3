-- The length, and then port by port. Assumes nothing.
use Rattle.std.proofs.Common.{◌≡◌, refl, sym, ◌∙◌, ap, ◌&&◌, ℕ, length, List, false, arith}
use mathlib.Core.Path.{ap₂}
use borrow.Author.Tests.{eq-eqb, ne_eqb}
use Rattle.sizes.specs.Sizes.{most_ports}
use Rattle.lists.specs.Every.{every}
use Rattle.lists.proofs.Every.{every_next, every_not}
use Rattle.cells.specs.Cells.{cells_long}
use Rattle.image.specs.Image.{port_saves, imageable}
use Rattle.store.proofs.imageable.Goals as goal

-- of an array of the cells its ports alone are to be asked
ports : (l : List ℕ) → length l ≡ cells_long → imageable l ≡ every most_ports (port_saves l)
unfolding imageable
ports l e = simp (eq-eqb _ _ e)

pub returns-in_default : goal.returns-in_default
unfolding imageable
returns-in_default c = simp (ne_eqb _ _ c.in_default.ensures.cases)

pub loop-p-init : goal.loop-p-init
unfolding every
loop-p-init c = refl

pub returns-then-not-port_saves : goal.returns-then-not-port_saves
returns-then-not-port_saves c =
    let l = c.in-Some.cells.now in
    let e : every most_ports (port_saves l) ≡ false = every_not most_ports (port_saves l) c.loop-p.p c.loop-p-test.true (sym c.port_saves.ensures ∙ c.if-not-port_saves.true) in
    sym (ports l (ap length c.in-Some.ensures.cases.same ∙ c.in-Some.ensures.cases.long) ∙ e) ∙ ap imageable c.in-Some.ensures.cases.same

pub loop-p-preserved : goal.loop-p-preserved
loop-p-preserved c = every_next c.loop-p.p _ ∙ ap₂ ◌&&◌ c.loop-p.invariant (sym c.port_saves.ensures ∙ c.if-not-port_saves.false)

pub returns : goal.returns
returns c =
    let l = c.in-Some.cells.now in
    let e : c.loop-p.p ≡ most_ports = omega arith in
    sym (ports l (ap length c.in-Some.ensures.cases.same ∙ c.in-Some.ensures.cases.long) ∙ sym (ap (λ (k : ℕ). every k (port_saves l)) e) ∙ c.loop-p.invariant) ∙ ap imageable c.in-Some.ensures.cases.same
