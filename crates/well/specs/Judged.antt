-- Refusal 13 over lent cells.
use Rattle.std.specs.Prelude.{ℕ, Bool, cond, ◌&&◌, List, eqb, leb, length, Result, Ok}
use Rattle.sizes.specs.Refused.{refused}
use Rattle.sizes.specs.declared.refusals.Refusal.{Refusal}
use Rattle.power.specs.Power.{tenths}
use Rattle.table.specs.Head.{well_head}
use Rattle.table.specs.WellMade.{well_port, well_made}
use Rattle.cells.specs.Cells.{cells_long, count_cell, supply_cell, port_of, table_of, port_holds, is_table}

-- there are as many cells as a table has, "port count 0 or over 48; a stored supply over 60,000" hold not
unfoldable pub head_cells : List ℕ → Bool
head_cells l = eqb (length l) cells_long && well_head (count_cell l) (tenths (supply_cell l))

-- the cells are a table, and no "ill-made table"
unfoldable pub well_cells : List ℕ → Bool
well_cells l = is_table l && well_made (table_of l)

-- a port's part of it
unfoldable pub port_fine : List ℕ → ℕ → Bool
port_fine l p = port_holds l p && well_port (port_of l p)

-- "13 first"; then 2, "port number not below the port count"
unfoldable pub port_named : List ℕ → ℕ → Result ℕ Refusal
port_named l n = cond (well_cells l) (cond (leb (count_cell l) n) (refused 2) (Ok n)) (refused 13)
