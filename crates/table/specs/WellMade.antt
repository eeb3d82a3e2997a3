-- Document 01, refusal 13, in its words and its order. A table is well-made where none of it holds.
use Rattle.std.specs.Prelude.{ℕ, Bool, not, List, [], ◌∷◌, eqb, ltb}
use Rattle.sizes.specs.Sizes.{most_count, most_ports}
use Rattle.lists.specs.Every.{some_below}
use Rattle.lists.specs.Entries.{some}
use Rattle.lists.specs.Tests.{one_holds}
use Rattle.power.specs.Power.{over, highest_supply}
use Rattle.class.specs.Class.{is_demand}
use Rattle.control.specs.Control.{refused}
use Rattle.port.specs.declared.form.Counts.{Counts}
use Rattle.port.specs.declared.form.Port.{Port}
use Rattle.table.specs.declared.form.Table.{Table}
use Rattle.table.specs.Parts.{port_at}

abbrev pub counters : Counts → List ℕ
counters c =
    c.detection ∷ c.backoff ∷ c.error_delay ∷ c.power_on ∷ c.limiting ∷ c.overload ∷ c.no_load ∷ []

-- "a counter over 2,000, a class over 4, a control word that a write refuses with 3, or a demand not 0, 40, 70, 154 or 300"
unfoldable pub ill_port : Port → Bool
ill_port p =
    one_holds (some (ltb most_count) (counters p.counts) ∷ ltb 4 p.class ∷ refused p.control ∷ not (is_demand p.demand) ∷ [])

-- "ill-made table: port count 0 or over 48; a stored supply over 60,000; or, in a port below the count, .."
unfoldable pub ill_made : Table → Bool
ill_made t =
    one_holds (eqb t.count 0 ∷ ltb most_ports t.count ∷ over t.supply highest_supply ∷ some_below t.count (λ p. ill_port (port_at t p)) ∷ [])

unfoldable pub well_port : Port → Bool
well_port p = not (ill_port p)

unfoldable pub well_made : Table → Bool
well_made t = not (ill_made t)
