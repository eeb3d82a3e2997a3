-- The count is at most 48, so no cell is past the end. Assumes nothing.
use Rattle.std.proofs.Common.{◌≡◌, refl, sym, ap, ◌∙◌, ◌+◌, ℕ, Bool, true, false, ◌&&◌, List, length, nat_eq, arith}
use borrow.Author.Tests.{eq-eqb, ne_eqb}
use Rattle.lists.specs.Bits.{one}
use Rattle.lists.proofs.Bits.{byte_is, byte_small}
use Rattle.lists.specs.Every.{every}
use Rattle.lists.proofs.Every.{every_next}
use Rattle.power.specs.Power.{tenths}
use Rattle.table.specs.Head.{well_head}
use Rattle.cells.specs.Cells.{cells_long, count_cell, supply_cell, is_table}
use Rattle.well.specs.Judged.{head_cells, port_fine, well_cells}
use Rattle.well.proofs.Laws.{all_fine, well_cells_lem, head_few}
use Rattle.well.proofs.well_made.Goals as goal

-- of an array of the cells the head alone is to be asked
head : (l : List ℕ) → length l ≡ cells_long → head_cells l ≡ well_head (count_cell l) (tenths (supply_cell l))
unfolding head_cells
head l e = simp (eq-eqb _ _ e)

-- cells of another number are no table
pub returns-in_default : goal.returns-in_default
unfolding well_cells is_table
returns-in_default c = simp (ne_eqb _ _ c.in_default.ensures.cases)

pub returns-then-not-head_fine : goal.returns-then-not-head_fine
returns-then-not-head_fine c =
    let l = c.in-Some.cells.now in
    let e : length l ≡ cells_long = omega arith in
    let h : head_cells l ≡ false = head l e ∙ sym c.head_fine.ensures ∙ c.if-not-head_fine.true in
    sym (well_cells_lem l ∙ simp h) ∙ ap well_cells c.in-Some.ensures.cases.same

pub loop-p-init : goal.loop-p-init
unfolding every
loop-p-init c = (omega arith, refl)

pub port_fine-requires : goal.port_fine-requires
port_fine-requires c =
    let l = c.in-Some.cells.now in
    let h : well_head (count_cell l) (tenths (supply_cell l)) ≡ true = sym c.head_fine.ensures ∙ c.if-not-head_fine.false in
    omega (arith, head_few (count_cell l) (tenths (supply_cell l)) h)

pub overflow_add-fine : goal.overflow_add-fine
overflow_add-fine c =
    let r = c.port_fine.result in
    let h : well_head (count_cell c.in-Some.cells.now) (tenths (supply_cell c.in-Some.cells.now)) ≡ true = sym c.head_fine.ensures ∙ c.if-not-head_fine.false in
    omega (arith, byte_small r, head_few (count_cell c.in-Some.cells.now) (tenths (supply_cell c.in-Some.cells.now)) h)

pub loop-p-preserved : goal.loop-p-preserved
loop-p-preserved c =
    let k = c.loop-p in
    let l = c.in-Some.cells.now in
    let r = c.port_fine.result in (
      omega (arith, byte_small r),
      ap (λ (x : ℕ). nat_eq (k.fine + x) (k.p + 1)) (byte_is r ∙ ap one c.port_fine.ensures)
          ∙ all_fine k.fine k.p (port_fine l k.p) k.invariant.0 ∙ ap (λ (b : Bool). b && port_fine l k.p) k.invariant.1 ∙ sym (every_next k.p (port_fine l)),
    )

pub returns : goal.returns
returns c =
    let k = c.loop-p in
    let l = c.in-Some.cells.now in
    let length_is : length l ≡ cells_long = omega arith in
    let h : head_cells l ≡ true = head l length_is ∙ sym c.head_fine.ensures ∙ c.if-not-head_fine.false in
    let e : k.p ≡ count_cell l = omega arith in
    ap (nat_eq k.fine) (sym e) ∙ k.invariant.1 ∙ ap (λ (n : ℕ). every n (port_fine l)) e ∙ sym (well_cells_lem l ∙ simp h) ∙ ap well_cells c.in-Some.ensures.cases.same
