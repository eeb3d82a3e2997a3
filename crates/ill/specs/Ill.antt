-- Refusal 13 of lent cells, condition by condition, and that well-made cells are those of which none holds.
-- Assumes nothing.
use Rattle.std.specs.Prelude.{ℕ, Bool, not, ◌||◌, List}
use Rattle.table.specs.WellMade.{ill_port, ill_made}
use Rattle.cells.specs.Cells.{port_of, table_of, port_holds, is_table}

-- a port with a state or a latch that there is not, or "in a port below the count, a counter over 2,000, .."
unfoldable pub ill_at : List ℕ → ℕ → Bool
ill_at l p = not (port_holds l p) || ill_port (port_of l p)

-- "13 first, in every call that takes a table": cells that are no table, or an "ill-made table"
unfoldable pub ill_cells : List ℕ → Bool
ill_cells l = not (is_table l) || ill_made (table_of l)
