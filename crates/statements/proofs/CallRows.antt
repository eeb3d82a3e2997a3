-- What is proved of specs/CallRows.
-- Assumes nothing.
use mathlib.Core.Path.{◌≡◌, refl}
use mathlib.Core.Bool.{Bool}
use mathlib.Core.List.{[], ◌∷◌, map}
use Rattle.std.specs.Prelude.{Ok}
use Rattle.lists.specs.Bytes.{word_at}
use Rattle.lists.specs.Bits.{field, above}
use Rattle.lists.specs.Every.{some_below}
use Rattle.lists.specs.Entries.{some}
use Rattle.lists.specs.Total.{total}
use Rattle.power.specs.Power.{tenths, over, fits}
use Rattle.class.specs.Class.{budget_of, is_demand, level_of, over_class}
use Rattle.sample.specs.Sample.{sample_at, reserved_flags}
use Rattle.control.specs.Control.{refused}
use Rattle.status.specs.Status.{no_latches, status_word}
use Rattle.port.specs.declared.form.State.{State}
use Rattle.port.specs.declared.form.State.TheVariants.{Disabled, Idle, Detecting, Backoff, Classifying, PowerUp, PowerOn, ErrorDelay, TestMode, TestError}
use Rattle.port.specs.States.{condition}
use Rattle.replies.specs.Calls.{cold_table, cold_start, same_alternative, with_control, write_control, unlatched, status_at, read_status, demanding, over_supply, request}
use Rattle.table.specs.Drawn.{draws, closed_sum}
use Rattle.table.specs.Parts.{zero_counts, port_at, with_port, refuse, tells}
use Rattle.boards.specs.Masks.{answered}
use Rattle.passes.specs.Tick.{tick, flags_reserved}
use Rattle.table.specs.WellMade.{ill_port, ill_made, well_made}
use Rattle.table.specs.declared.form.Table.{Table}
use Rattle.statements.specs.Statement1.{Outcome}
use Rattle.statements.specs.TableRows.{port, table, tables}
use Rattle.statements.specs.CallRows.{Question, meaning, calls, latched, cleared}

pub tables_hold : map (λ (r : Table × Bool). well_made r.0) tables ≡ map (λ (r : Table × Bool). r.1) tables
unfolding tables well_made ill_made ill_port over some_below port_at refused field above is_demand some
tables_hold = refl

pub calls_hold : map (λ (r : Question × Outcome). meaning r.0) calls ≡ map (λ (r : Question × Outcome). r.1) calls
unfolding calls meaning cold_start cold_table tells refuse write_control same_alternative with_control with_port request over_supply over_class demanding level_of budget_of closed_sum draws total fits ill_made ill_port over some_below port_at refused field above is_demand some read_status status_at tick flags_reserved reserved_flags sample_at word_at answered
calls_hold = refl

-- "value 1..38 means demand 40, ..64 means 70, ..129 means 154, ..255 means 300"
pub levels_hold : map level_of (1 ∷ 38 ∷ 39 ∷ 64 ∷ 65 ∷ 129 ∷ 130 ∷ 255 ∷ []) ≡ map tenths (40 ∷ 40 ∷ 70 ∷ 70 ∷ 154 ∷ 154 ∷ 300 ∷ 300 ∷ [])
unfolding level_of budget_of
levels_hold = refl

-- "Condition: 0 in DISABLED, 1 in IDLE, DETECTING, BACKOFF, CLASSIFYING, 2 in POWER_UP, POWER_ON, 3 in TEST_MODE, 4 in ERROR_DELAY, TEST_ERROR.": the
-- status words of ports without a latch in each of the ten states, of class 0
pub conditions_hold :
    map (λ (s : State). status_word no_latches 0 (condition s)) (Disabled ∷ Idle ∷ Detecting ∷ Backoff ∷ Classifying ∷ PowerUp ∷ PowerOn ∷ ErrorDelay ∷ TestMode ∷ TestError ∷ [])
    ≡ 1 ∷ 3 ∷ 3 ∷ 3 ∷ 3 ∷ 5 ∷ 5 ∷ 9 ∷ 7 ∷ 9 ∷ []
unfolding status_word
conditions_hold = refl

pub status_clears : read_status (table 2 300 latched latched) 1 ≡ record { table = table 2 300 latched cleared; answer = Ok 0x7FA5 }
unfolding read_status status_at unlatched tells status_word with_port ill_made ill_port over some_below port_at refused field above is_demand some
status_clears = refl

-- "Accepted, it becomes the port's demand; nothing else changes."
pub request_changes_its_demand : request (table 2 300 (port PowerOn 3 0x0005 40 zero_counts) latched) 0 129 ≡ record { table = table 2 300 (port PowerOn 3 0x0005 154 zero_counts) latched; answer = Ok tt }
unfolding request over_supply over_class demanding level_of budget_of closed_sum draws total fits tells with_port ill_made ill_port over some_below port_at refused field above is_demand some
request_changes_its_demand = refl
