-- The table by its places, and what its calls answer.
use Rattle.std.specs.Prelude.{ℕ, get_or, set, Result, Ok}
use Rattle.sizes.specs.Refused.{refused}
use Rattle.sizes.specs.declared.refusals.Refusal.{Refusal}
use Rattle.power.specs.Power.{zero_power}
use Rattle.status.specs.Status.{no_latches}
use Rattle.port.specs.declared.form.Counts.{Counts}
use Rattle.port.specs.declared.form.Port.{Port}
use Rattle.port.specs.declared.form.State.TheVariants.{Disabled}
use Rattle.table.specs.declared.form.Table.{Table}

abbrev pub zero_counts : Counts
zero_counts = record { detection = 0; backoff = 0; error_delay = 0; power_on = 0; limiting = 0; overload = 0; no_load = 0 }

-- what stands for a place that a list does not have; a table's 48 places are all there
abbrev pub no_port : Port
no_port = record { state = Disabled; class = 0; control = 0; demand = zero_power; latches = no_latches; counts = zero_counts }

-- the port at a place
unfoldable pub port_at : Table → ℕ → Port
port_at t p = get_or t.ports p no_port

-- the table with another port at a place
unfoldable pub with_port : ℕ → Port → Table → Table
with_port p port t = record { ports = set t.ports p port; count = t.count; supply = t.supply }

-- an answer with the table as it is then
pub record Told (A : Type 0) : Type 0 where
  pub table : Table
  pub answer : A

unfoldable pub tells : {A : Type 0} → A → Table → Told (Result A Refusal)
tells answer t = record { table = t; answer = Ok answer }

-- a call that answers no more than that it is done
abbrev pub done : Table → Told (Result Unit Refusal)
done t = tells tt t

-- "The table comes back unchanged" with a refusal
unfoldable pub refuse : {A : Type 0} → ℕ → Table → Told (Result A Refusal)
refuse number t = record { table = t; answer = refused number }
