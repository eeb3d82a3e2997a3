-- `ill_table` is `ill_cells`: an ill port was met exactly if not each port below p is fine. The count is at most 48, so no cell is past the end.
-- Assumes nothing.
use Rattle.std.proofs.Common.{◌≡◌, ℕ, ◌+◌, ◌<◌, true, false, ◌||◌, eqb, ltb, List, length, refl, sym, ◌∙◌, arith}
use borrow.Author.Tests.{not-true, not-false}
use Rattle.lists.specs.Every.{every}
use Rattle.lists.proofs.Every.{every_next, every_not}
use Rattle.lists.proofs.Tests.{and_both}
use Rattle.cells.specs.Cells.{cells_long, count_cell, supply_cell}
use Rattle.well.specs.Judged.{head_cells, port_fine}
use Rattle.well.proofs.Laws.{head_count}
use Rattle.ill.specs.Ill.{ill_at}
use Rattle.ill.proofs.Ill.{ill_parts, ill_at_is, head_ill}
use Rattle.ill.proofs.ill_table.Goals as goal

-- what the head says of whoever is past its test
head_well : (l : List ℕ) → length l ≡ cells_long → ((eqb (count_cell l) 0 || ltb 48 (count_cell l)) || ltb 60000 (supply_cell l)) ≡ false → head_cells l ≡ true
head_well l long e = not-false (head_cells l) (sym (head_ill l long) ∙ e)

one_ill : (l : List ℕ) (p : ℕ) → p < count_cell l → ill_at l p ≡ true → every (count_cell l) (port_fine l) ≡ false
one_ill l p h e = every_not (count_cell l) (port_fine l) p h (not-true (port_fine l p) (sym (ill_at_is l p) ∙ e))

one_fine : (l : List ℕ) (p : ℕ) → every p (port_fine l) ≡ true → ill_at l p ≡ false → every (p + 1) (port_fine l) ≡ true
one_fine l p e h = every_next p (port_fine l) ∙ and_both (every p (port_fine l)) (port_fine l p) e (not-false (port_fine l p) (sym (ill_at_is l p) ∙ h))

pub returns-then-count-cells : goal.returns-then-count-cells
returns-then-count-cells c =
    let l = c.args.cells.now in
    sym (ill_parts l ∙ simp (not-true (head_cells l) (sym (head_ill l c.told-cells) ∙ c.if-count-cells.true)))

pub loop-p-init : goal.loop-p-init
unfolding every
loop-p-init c = refl

pub bad_port-requires : goal.bad_port-requires
bad_port-requires c =
    let l = c.args.cells.now in
    omega (arith, head_count l (head_well l c.told-cells c.if-count-cells.false))

pub returns-then-bad_port : goal.returns-then-bad_port
returns-then-bad_port c =
    let l = c.args.cells.now in
    sym (ill_parts l ∙ simp (head_well l c.told-cells c.if-count-cells.false, one_ill l c.loop-p.p c.loop-p-test.true (sym c.bad_port.ensures ∙ c.if-bad_port.true)))

pub loop-p-preserved : goal.loop-p-preserved
loop-p-preserved c = one_fine c.args.cells.now c.loop-p.p c.loop-p.invariant (sym c.bad_port.ensures ∙ c.if-bad_port.false)

pub returns : goal.returns
returns c =
    let l = c.args.cells.now in
    let e : c.loop-p.p ≡ count_cell l = omega arith in
    let fine : every (count_cell l) (port_fine l) ≡ true = rw e at c.loop-p.invariant in
    sym (ill_parts l ∙ simp (head_well l c.told-cells c.if-count-cells.false, fine))
