-- Rows on what a well-made table is. Proved in proofs/CallRows.
-- Assumes nothing.
use Rattle.std.specs.Prelude.{ℕ, Bool, true, false, List, [], ◌∷◌, replicate}
use Rattle.power.specs.Power.{tenths}
use Rattle.status.specs.Status.{no_latches}
use Rattle.port.specs.declared.form.Counts.{Counts}
use Rattle.port.specs.declared.form.Port.{Port}
use Rattle.port.specs.declared.form.State.{State}
use Rattle.port.specs.declared.form.State.TheVariants.{Idle}
use Rattle.replies.specs.Calls.{cold_port}
use Rattle.table.specs.Parts.{zero_counts}
use Rattle.table.specs.declared.form.Table.{Table}
use Rattle.statements.specs.MoveWords.{counts}

-- a port with a state, a class, a control word, a demand and counters
abbrev pub port : State → ℕ → ℕ → ℕ → Counts → Port
port s k w d c = record { state = s; class = k; control = w; demand = tenths d; latches = no_latches; counts = c }

abbrev pub idle : Counts → Port
idle c = port Idle 0 0x0005 0 c

-- a table of so many ports under a stored supply, with one port at place 0 and another at place 1
abbrev pub table : ℕ → ℕ → Port → Port → Table
table n supply p q = record { ports = p ∷ q ∷ replicate 46 cold_port; count = n; supply = tenths supply }

-- a port of which one thing alone is in question, at place 0 of a table of one port
abbrev pub alone : Port → Table
alone p = table 1 0 p cold_port

-- "ill-made table: port count 0 or over 48; a stored supply over 60,000; or, in a port below the count, a counter over 2,000, a class over 4,
-- a control word that a write refuses with 3, or a demand not 0, 40, 70, 154 or 300"
unfoldable pub tables : List (Table × Bool)
tables =
    (table 0 0 cold_port cold_port, false)
    ∷ (table 1 0 cold_port cold_port, true)
    ∷ (table 48 0 cold_port cold_port, true)
    ∷ (table 49 0 cold_port cold_port, false)
    ∷ (table 1 60000 cold_port cold_port, true)
    ∷ (table 1 60001 cold_port cold_port, false)
    ∷ (alone (idle (counts 2000 2000 2000 2000 2000 2000 2000)), true)
    ∷ (alone (idle (counts 2001 0 0 0 0 0 0)), false)
    ∷ (alone (idle (counts 0 2001 0 0 0 0 0)), false)
    ∷ (alone (idle (counts 0 0 2001 0 0 0 0)), false)
    ∷ (alone (idle (counts 0 0 0 2001 0 0 0)), false)
    ∷ (alone (idle (counts 0 0 0 0 2001 0 0)), false)
    ∷ (alone (idle (counts 0 0 0 0 0 2001 0)), false)
    ∷ (alone (idle (counts 0 0 0 0 0 0 2001)), false)
    ∷ (alone (port Idle 4 0x0005 0 zero_counts), true)
    ∷ (alone (port Idle 5 0x0005 0 zero_counts), false)
    ∷ (alone (port Idle 0 0x0007 0 zero_counts), false)
    ∷ (alone (port Idle 0 0x0045 0 zero_counts), false)
    ∷ (alone (port Idle 0 0x0005 40 zero_counts), true)
    ∷ (alone (port Idle 0 0x0005 41 zero_counts), false)
    -- the port at place 1 is looked at if it is below the count, and not if it is at it
    ∷ (table 2 0 cold_port (port Idle 5 0x0005 0 zero_counts), false)
    ∷ (table 1 0 cold_port (port Idle 5 0x0005 0 zero_counts), true)
    ∷ []
