-- The sharing's laws at a move that is not the access switch's: a board with one lever a port, no signature and no class. It is no board
-- of ours; it shows that the laws ask nothing of a move beyond what they say.
-- Assumes nothing.
use Rattle.std.specs.Prelude.{ℕ, ◌+◌, ◌≤◌, ◌<◌, ◌≡◌, true, cond, List, eqb, get_or}
use Rattle.std.specs.Int.Count.{ones}
use Rattle.lists.specs.Count.{count}
use Rattle.power.specs.Power.{tenths}
use Rattle.power.specs.declared.Power.{Power}
use Rattle.status.specs.Status.{join}
use Rattle.port.specs.Entry.{enter}
use Rattle.port.specs.Changes.{with_demand, quietly, asking}
use Rattle.port.specs.States.{closed}
use Rattle.port.specs.declared.form.Moved.{Moved}
use Rattle.port.specs.declared.form.Port.{Port}
use Rattle.port.specs.declared.form.State.TheVariants.{Idle}
use Rattle.boards.specs.Masks.{mask_a, mask_b}
use Rattle.boards.specs.Sharing.{latched_at, table_after}
use Rattle.table.specs.Drawn.{closed_at, closed_sum}
use Rattle.table.specs.Parts.{port_at}
use Rattle.table.specs.WellMade.{well_made}
use Rattle.table.specs.declared.form.Table.{Table}

-- a lever at 0 sends the port to IDLE; else a closed port stays, and an open one asks for 7.0 W
unfoldable pub pulled : ℕ → Port → Moved
pulled lever p = cond (eqb lever 0) (quietly (enter Idle p)) (cond (closed p.state) (quietly p) (asking (with_demand (tenths 70) p)))

abbrev pub pulled_at : Table → List ℕ → ℕ → Moved
pulled_at t levers p = pulled (get_or levers p 0) (port_at t p)

-- what the laws give for this board's table after a tick
pub record Shared (t : Table) (levers : List ℕ) (less more : Power) : Type 0 where
  pub closes_more : (p : ℕ) → closed_at (table_after t (pulled_at t levers) less) p ≡ true → closed_at (table_after t (pulled_at t levers) more) p ≡ true
  pub fits : closed_sum (table_after t (pulled_at t levers) more) ≤ more.0
  pub well : well_made (table_after t (pulled_at t levers) more) ≡ true
  pub number : ones (mask_a (table_after t (pulled_at t levers) more)) + ones (mask_b (table_after t (pulled_at t levers) more)) ≡ count 48 (closed_at (table_after t (pulled_at t levers) more))
  pub latches : (p : ℕ) → p < t.count → (port_at (table_after t (pulled_at t levers) more) p).latches ≡ join (port_at t p).latches (latched_at t (pulled_at t levers) more p)
