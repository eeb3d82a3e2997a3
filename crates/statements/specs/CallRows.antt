-- Document 01, refusal 13 and the calls on a table: rows of our own, each condition at its limit and one past it. They are of the
-- definitions themselves, so that a limit that is wrong in a definition and in the code alike is refused.
-- Assumes nothing.
use Rattle.std.specs.Prelude.{ℕ, true, List, [], ◌∷◌, ◌++◌, replicate}
use Rattle.power.specs.Power.{tenths}
use Rattle.status.specs.Status.{no_latches}
use Rattle.port.specs.declared.form.Port.{Port}
use Rattle.port.specs.declared.form.State.{State}
use Rattle.port.specs.declared.form.State.TheVariants.{Disabled, Idle, PowerUp, PowerOn}
use Rattle.replies.specs.Calls.{cold_port, cold_start, write_control, read_status, request}
use Rattle.table.specs.Parts.{zero_counts}
use Rattle.passes.specs.Tick.{tick}
use Rattle.table.specs.declared.form.Table.{Table}
use Rattle.statements.specs.MoveWords.{counts}
use Rattle.statements.specs.Statement1.{Outcome, value, number, told}
use Rattle.statements.specs.TableRows.{port, table}

pub data Question : Type 0 where
  cold : ℕ → Question
  control : Table → ℕ → ℕ → Question
  asks : Table → ℕ → ℕ → Question
  reads : Table → ℕ → Question
  ticks : Table → List ℕ → ℕ → Question

unfoldable pub meaning : Question → Outcome
meaning (cold n) = told (cold_start n).answer
meaning (control t p w) = told (write_control t p w).answer
meaning (asks t p v) = told (request t p v).answer
meaning (reads t p) = told (read_status t p).answer
meaning (ticks t block figure) = told (tick t block figure).answer

-- two samples without a flag; two of which the second has a reserved flag; one byte too few
abbrev pub samples : ℕ → List ℕ
samples flag = replicate 26 0 ++ (0 ∷ flag ∷ [])

-- port 0 in a state with a class and a demand, beside a closed port of 7.0 W
abbrev pub shared : State → ℕ → ℕ → ℕ → Table
shared s k d supply = table 2 supply (port s k 0x0005 d zero_counts) (port PowerOn 2 0x0005 70 zero_counts)

abbrev pub ill : Table
ill = table 49 0 cold_port cold_port

unfoldable pub calls : List (Question × Outcome)
calls =
    -- "a cold start asked for 0 or over 48 ports"
    (cold 0, number 2)
    ∷ (cold 1, value)
    ∷ (cold 48, value)
    ∷ (cold 49, number 2)
    -- "Control word: 2, 3, 5.", after 13: each number before the next
    ∷ (control ill 49 0x0007, number 13)
    ∷ (control (shared PowerOn 2 70 0) 2 0x0007, number 2)
    ∷ (control (shared PowerOn 2 70 0) 0 0x000B, number 3)
    ∷ (control (shared PowerOn 2 70 0) 0 0x0009, number 5)
    ∷ (control (shared Idle 2 0 0) 0 0x0009, number 5)
    ∷ (control (shared Disabled 2 0 0) 0 0x0009, value)
    ∷ (control (shared PowerOn 2 70 0) 0 0x0004, value)
    -- "Request: 2, 10, 5, 11, 12.", after 13
    ∷ (asks ill 49 0, number 13)
    ∷ (asks (shared Idle 0 0 0) 2 0, number 2)
    ∷ (asks (shared Idle 0 0 0) 0 0, number 10)
    ∷ (asks (shared PowerUp 0 0 0) 0 255, number 5)
    -- request [4]: "A request gives 10 for 0 or above 999, and 11 for 256 to 999, after the state check as before."
    ∷ (asks (shared PowerOn 4 300 0) 0 0, number 10)
    ∷ (asks (shared PowerOn 4 300 0) 0 1, value)
    ∷ (asks (shared PowerOn 4 300 0) 0 255, value)
    ∷ (asks (shared PowerOn 4 300 0) 0 256, number 11)
    ∷ (asks (shared PowerOn 4 300 0) 0 999, number 11)
    ∷ (asks (shared PowerOn 4 300 0) 0 1000, number 10)
    ∷ (asks (shared PowerOn 4 300 0) 0 65535, number 10)
    ∷ (asks (shared PowerOn 1 40 0) 0 256, number 11)
    ∷ (asks (shared PowerOn 1 40 0) 0 1000, number 10)
    ∷ (asks (shared PowerUp 4 300 0) 0 0, number 10)
    ∷ (asks (shared PowerUp 4 300 0) 0 1, number 5)
    ∷ (asks (shared PowerUp 4 300 0) 0 256, number 5)
    ∷ (asks (shared PowerUp 4 300 0) 0 999, number 5)
    ∷ (asks (shared PowerUp 4 300 0) 0 1000, number 10)
    ∷ (asks (shared PowerUp 4 300 0) 0 65535, number 10)
    ∷ (asks (shared PowerOn 2 40 0) 0 65, number 11)
    ∷ (asks (shared PowerOn 2 40 0) 0 64, number 12)
    -- "A demand not above the present one is accepted": with no look at the supply
    ∷ (asks (shared PowerOn 2 70 0) 0 64, value)
    ∷ (asks (shared PowerOn 2 70 0) 0 1, value)
    -- "a higher one exactly if all closed ports' demands with the change are at most the stored supply"
    ∷ (asks (shared PowerOn 3 40 223) 0 129, number 12)
    ∷ (asks (shared PowerOn 3 40 224) 0 129, value)
    -- "Status: 2.", after 13
    ∷ (reads ill 49, number 13)
    ∷ (reads (shared Idle 0 0 0) 2, number 2)
    ∷ (reads (shared Idle 0 0 0) 1, value)
    -- "Tick: 1, 4, 3.", after 13: each number before the next
    ∷ (ticks ill [] 60001, number 13)
    ∷ (ticks (shared Idle 0 0 0) (replicate 27 0xFF) 60001, number 1)
    ∷ (ticks (shared Idle 0 0 0) (replicate 29 0xFF) 60001, number 1)
    ∷ (ticks (shared Idle 0 0 0) (samples 64) 60001, number 4)
    ∷ (ticks (shared Idle 0 0 0) (samples 64) 60000, number 3)
    ∷ (ticks (shared Idle 0 0 0) (samples 63) 60000, value)
    ∷ []

-- "Reading the status returns the word and clears that port's six latches, no more."; request [7]: "both clear on a status read with the other six"
abbrev pub latched : Port
latched = record { state = PowerOn; class = 2; control = 0x0005; demand = tenths 70; latches = record { disagree = true; over_current = true; denied = true; valid = true; invalid = true; short = true; overload = true; absent = true }; counts = counts 1 2 3 4 5 6 7 }

abbrev pub cleared : Port
cleared = record { state = PowerOn; class = 2; control = 0x0005; demand = tenths 70; latches = no_latches; counts = counts 1 2 3 4 5 6 7 }
