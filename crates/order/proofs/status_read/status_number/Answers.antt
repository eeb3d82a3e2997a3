-- `status_number`: 13, and then 2. Assumes nothing.
use Rattle.std.proofs.Common.{◌≡◌, ℕ, false, List, drop, sym, ◌∙◌, arith}
use borrow.Author.Tests.{le-leb, lt-leb}
use Rattle.cells.specs.Cells.{table_of}
use Rattle.ill.specs.Ill.{ill_cells}
use Rattle.interface.specs.Statement1C.{first_number, status_list}
use Rattle.replies.specs.Calls.{status_refusals}
use Rattle.order.proofs.Order.{ill_first, well_first, well_cells_of}
use Rattle.order.proofs.status_read.status_number.Goals as goal

-- what comes after 13
past : (l : List ℕ) (port : ℕ) → ill_cells l ≡ false → first_number (status_list l port) ≡ first_number (drop 1 (status_refusals (table_of l) port))
past l port e = well_first l (drop 1 (status_refusals (table_of l) port)) e

pub returns-then-ill_made : goal.returns-then-ill_made
returns-then-ill_made c =
    let l = c.args.cells.now in
    ill_first l (drop 1 (status_refusals (table_of l) c.args.port)) (sym c.ill_made.ensures ∙ c.if-ill_made.true)

pub bounds-cells-0 : goal.bounds-cells-0
bounds-cells-0 c = let w = well_cells_of _ (sym c.ill_made.ensures ∙ c.if-ill_made.false) in omega arith

pub returns-then-cells-port : goal.returns-then-cells-port
unfolding table_of
returns-then-cells-port c = sym (past _ _ (sym c.ill_made.ensures ∙ c.if-ill_made.false) ∙ simp (le-leb _ _ c.if-cells-port.true))

pub returns : goal.returns
unfolding table_of
returns c = sym (past _ _ (sym c.ill_made.ensures ∙ c.if-ill_made.false) ∙ simp (lt-leb _ _ c.if-cells-port.false))
