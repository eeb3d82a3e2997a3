-- Document 01, "Sharing the supply": which places are closed, and what the closed ports draw.
use Rattle.std.specs.Prelude.{ℕ, Bool, cond, ◌&&◌, ltb}
use Rattle.lists.specs.Total.{total}
use Rattle.port.specs.States.{closed}
use Rattle.port.specs.declared.form.Port.{Port}
use Rattle.table.specs.declared.form.Table.{Table}
use Rattle.table.specs.Parts.{port_at}

-- a place that carries 48 volts; places at or past the port count "count as open"
unfoldable pub closed_at : Table → ℕ → Bool
closed_at t p = ltb p t.count && closed (port_at t p).state

-- what a port draws: its demand if it is closed
unfoldable pub draws : Port → ℕ
draws p = cond (closed p.state) p.demand.0 0

-- "all closed ports' demands"
unfoldable pub closed_sum : Table → ℕ
closed_sum t = total t.count (λ p. draws (port_at t p))
