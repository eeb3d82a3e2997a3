-- 13 for cells that are not well-made, then 2, and then the place. Assumes nothing.
use Rattle.std.proofs.Common.{◌≡◌, sym, ◌∙◌, true, false, arith}
use borrow.Author.Tests.{le-leb, lt-leb}
use Rattle.well.specs.Judged.{well_cells, port_named}
use Rattle.well.proofs.Laws.{cells_of}
use Rattle.well.proofs.port_named.Goals as goal

pub returns-then-not-well_made : goal.returns-then-not-well_made
unfolding port_named
returns-then-not-well_made c = let e : well_cells c.args.cells.now ≡ false = sym c.well_made.ensures ∙ c.if-not-well_made.true in simp e

pub bounds-cells-0 : goal.bounds-cells-0
bounds-cells-0 c = omega (arith, (cells_of c.args.cells.now (sym c.well_made.ensures ∙ c.if-not-well_made.false)).long)

pub returns-then-cells-port : goal.returns-then-cells-port
unfolding port_named
returns-then-cells-port c =
    let e : well_cells c.args.cells.now ≡ true = sym c.well_made.ensures ∙ c.if-not-well_made.false in
    simp (e, le-leb _ _ c.if-cells-port.true)

pub returns : goal.returns
unfolding port_named
returns c =
    let e : well_cells c.args.cells.now ≡ true = sym c.well_made.ensures ∙ c.if-not-well_made.false in
    simp (e, lt-leb _ _ c.if-cells-port.false)
