-- A port's cells written one after the other, as the code writes them: what stands at each cell then.
-- Assumes nothing.
use Rattle.std.specs.Prelude.{List, [], ◌∷◌, ℕ, ◌+◌, ◌*◌, set}
use Rattle.sizes.specs.Sizes.{most_ports}
use Rattle.port.specs.declared.form.Counts.{Counts}
use Rattle.port.specs.declared.form.Port.{Port}
use Rattle.cells.specs.Cells.{fields_of}

-- the fields from f on of a place, written one after the other
unfoldable pub writes : List ℕ → ℕ → ℕ → List ℕ → List ℕ
writes [] f p l = l
writes (v ∷ vs) f p l = writes vs (f + 1) p (set l (8 + most_ports * f + p) v)

-- the cells with another port at a place
unfoldable pub with_port_cells : ℕ → Port → List ℕ → List ℕ
with_port_cells p port l = writes (fields_of port) 0 p l

-- the cells with other counters at a place
abbrev pub count_fields : Counts → List ℕ
count_fields c = c.detection ∷ c.backoff ∷ c.error_delay ∷ c.power_on ∷ c.limiting ∷ c.overload ∷ c.no_load ∷ []

unfoldable pub with_count_cells : ℕ → Counts → List ℕ → List ℕ
with_count_cells p c l = writes (count_fields c) 5 p l
