-- A call on lent cells, refusal by refusal: 13, then 2, and then what the ladder asks of the port.
-- Assumes nothing.
use Rattle.std.specs.Prelude.{ℕ, ◌+◌, ◌≤◌, ◌<◌, ◌≡◌, true, List, length, get_or, drop, Result}
use Rattle.sizes.specs.Sizes.{most_ports}
use Rattle.sizes.specs.declared.refusals.Refusal.{Refusal}
use Rattle.lists.specs.Ladder.{ladder}
use Rattle.table.specs.Parts.{Told, port_at, with_port, done, refuse}
use Rattle.cells.specs.Cells.{cells_long, count_cell, table_of}
use Rattle.well.specs.Judged.{well_cells}
use Rattle.replies.specs.Calls.{with_control, control_refusals, level_of, granting, request_refusals}

-- what is known of the cells and the port, once 13 and 2 are not given
pub record AtPort (l : List ℕ) (p : ℕ) : Type 0 where
  pub well : well_cells l ≡ true
  pub below : p < count_cell l
  pub few : count_cell l ≤ most_ports
  pub long : length l ≡ cells_long
  pub class : get_or l (152 + p) 0 ≤ 4

-- what the ladder asks after 13 and 2
abbrev pub control_rest : List ℕ → ℕ → ℕ → Told (Result Unit Refusal)
control_rest l p w =
    ladder (drop 2 (control_refusals (table_of l) p w)) (λ k. refuse k (table_of l)) (done (with_port p (with_control w (port_at (table_of l) p)) (table_of l)))

abbrev pub request_rest : List ℕ → ℕ → ℕ → Told (Result Unit Refusal)
request_rest l p v =
    ladder (drop 2 (request_refusals (table_of l) p v)) (λ k. refuse k (table_of l)) (done (granting (level_of v) p (table_of l)))
