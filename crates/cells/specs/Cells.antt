-- The table that a caller lends: 728 cells of 16 bits, 8 of head and then 48 of each of 15 fields. include/ipaqsuni.h has the same as a struct.
use Rattle.std.specs.Prelude.{ℕ, ◌+◌, ◌-◌, ◌/◌, ◌%◌, Bool, cond, ◌&&◌, List, [], ◌∷◌, eqb, leb, ltb, length, get_or, set, replicate}
use Rattle.sizes.specs.Sizes.{most_ports}
use Rattle.lists.specs.Every.{every}
use Rattle.lists.specs.Places.{tabulate}
use Rattle.power.specs.Power.{tenths}
use Rattle.port.specs.States.{code_of}
use Rattle.port.specs.declared.form.Counts.{Counts}
use Rattle.port.specs.declared.form.Port.{Port}
use Rattle.table.specs.Parts.{port_at}
use Rattle.table.specs.declared.form.Table.{Table}
use Rattle.cells.specs.Codes.{state_of, latch_byte, latches_of}

-- how many cells a table has
abbrev pub cells_long : ℕ
cells_long = 728

-- the cells of the head: the port count and the stored supply; the other six are nobody's yet
abbrev pub count_cell : List ℕ → ℕ
count_cell l = get_or l 0 0

abbrev pub supply_cell : List ℕ → ℕ
supply_cell l = get_or l 1 0

-- field f of the port at place p stands at cell 8 + 48 f + p: state, control, demand, class, latches, and then the seven counters.
-- Fields 12 to 14 are nobody's yet
unfoldable pub counts_of : List ℕ → ℕ → Counts
counts_of l p =
    record {
      detection = get_or l (248 + p) 0;
      backoff = get_or l (296 + p) 0;
      error_delay = get_or l (344 + p) 0;
      power_on = get_or l (392 + p) 0;
      limiting = get_or l (440 + p) 0;
      overload = get_or l (488 + p) 0;
      no_load = get_or l (536 + p) 0;
    }

unfoldable pub port_of : List ℕ → ℕ → Port
port_of l p =
    record {
      state = state_of (get_or l (8 + p) 0);
      class = get_or l (152 + p) 0;
      control = get_or l (56 + p) 0;
      demand = tenths (get_or l (104 + p) 0);
      latches = latches_of (get_or l (200 + p) 0);
      counts = counts_of l p;
    }

-- the table that the cells are
unfoldable pub table_of : List ℕ → Table
table_of l = record { ports = tabulate most_ports (port_of l); count = count_cell l; supply = tenths (supply_cell l) }

-- a state up to 9, and no latch bit over 7 set
unfoldable pub port_holds : List ℕ → ℕ → Bool
port_holds l p = leb (get_or l (8 + p) 0) 9 && ltb (get_or l (200 + p) 0) 256

-- the cells are a table: there are as many as it has, and each port below the count has a state and latches that there are
unfoldable pub is_table : List ℕ → Bool
is_table l = eqb (length l) cells_long && every (count_cell l) (port_holds l)

-- the cells of a port, in the fields' order
abbrev pub fields_of : Port → List ℕ
fields_of port =
    code_of port.state ∷ port.control ∷ port.demand.0 ∷ port.class ∷ latch_byte port.latches
    ∷ port.counts.detection ∷ port.counts.backoff ∷ port.counts.error_delay ∷ port.counts.power_on
    ∷ port.counts.limiting ∷ port.counts.overload ∷ port.counts.no_load ∷ []

-- cell k is one of a port's twelve, and the port's place is below n
unfoldable pub is_of_port : ℕ → ℕ → Bool
is_of_port n k = leb 8 k && (ltb k 584 && ltb ((k - 8) % most_ports) n)

-- the cells with the ports f at the places below n, and all else as in l
unfoldable pub written : ℕ → (ℕ → Port) → List ℕ → List ℕ
written n f l = tabulate (length l) (λ k. cond (is_of_port n k) (get_or (fields_of (f ((k - 8) % most_ports))) ((k - 8) / most_ports) 0) (get_or l k 0))

-- the cells that a call leaves, where they were l and the table is then t: "Places at or past the port count .. never change"
unfoldable pub cells_with : Table → List ℕ → List ℕ
cells_with t l = written t.count (port_at t) (set l 1 t.supply.0)

-- the cells of a table that nothing was before: all 48 places are the table's, and what is nobody's is 0
unfoldable pub cells_of : Table → List ℕ
cells_of t = written most_ports (port_at t) (set (set (replicate cells_long 0) 0 t.count) 1 t.supply.0)
