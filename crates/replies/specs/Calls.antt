-- Document 01: the calls of the management side. Each has its refusals as a list, in document 01's order, and is the ladder of that list.
use Rattle.std.specs.Prelude.{ℕ, Bool, cond, not, ◌&&◌, ◌||◌, List, [], ◌∷◌, leb, ltb, eqb, replicate, Result}
use Rattle.sizes.specs.Sizes.{most_ports, most_value}
use Rattle.sizes.specs.declared.refusals.Refusal.{Refusal}
use Rattle.lists.specs.Bits.{field}
use Rattle.lists.specs.Ladder.{ladder}
use Rattle.power.specs.Power.{zero_power, over, fits, sum_of}
use Rattle.power.specs.declared.Power.{Power}
pub use Rattle.class.specs.Class.{level_of, over_class}
use Rattle.control.specs.Control.{refused}
use Rattle.status.specs.Status.{no_latches, status_word}
use Rattle.port.specs.Changes.{with_demand, with_latches}
use Rattle.port.specs.declared.form.Port.{Port}
use Rattle.port.specs.declared.form.State.TheVariants.{Disabled}
use Rattle.port.specs.States.{condition, in_disabled, in_power_on}
use Rattle.table.specs.declared.form.Table.{Table}
use Rattle.table.specs.Drawn.{closed_sum}
use Rattle.table.specs.Parts.{Told, port_at, with_port, done, refuse, tells, zero_counts}
use Rattle.table.specs.WellMade.{ill_made}

-- "A cold start gives every port DISABLED, control 0x0004, no latch, zero counters, class and demand 0, stored supply 0."
abbrev pub cold_port : Port
cold_port = record { state = Disabled; class = 0; control = 0x0004; demand = zero_power; latches = no_latches; counts = zero_counts }

-- "Places at or past the port count are filled alike"
unfoldable pub cold_table : ℕ → Table
cold_table count = record { ports = replicate most_ports cold_port; count = count; supply = zero_power }

-- refusal 2, "a cold start asked for 0 or over 48 ports"
abbrev pub cold_refusals : ℕ → List (ℕ × Bool)
cold_refusals n = (2, eqb n 0 || ltb most_ports n) ∷ []

-- beside the number stands a table of no ports, which every call refuses with 13
unfoldable pub cold_start : ℕ → Told (Result Unit Refusal)
cold_start n = ladder (cold_refusals n) (λ k. refuse k (cold_table 0)) (done (cold_table n))

-- two words have the same pair control
unfoldable pub same_alternative : ℕ → ℕ → Bool
same_alternative v w = eqb (field 2 2 v) (field 2 2 w)

unfoldable pub with_control : ℕ → Port → Port
with_control w p = record { state = p.state; class = p.class; control = w; demand = p.demand; latches = p.latches; counts = p.counts }

-- "13 first, in every call that takes a table."; "Control word: 2, 3, 5."; refusal 2, "port number not below the port count"; "A write that
-- changes the alternative of a port not in DISABLED is refused with 5."
abbrev pub control_refusals : Table → ℕ → ℕ → List (ℕ × Bool)
control_refusals t p w =
    (13, ill_made t)
    ∷ (2, leb t.count p)
    ∷ (3, refused w)
    ∷ (5, not (same_alternative (port_at t p).control w) && not (in_disabled (port_at t p).state))
    ∷ []

unfoldable pub write_control : Table → ℕ → ℕ → Told (Result Unit Refusal)
write_control t p w = ladder (control_refusals t p w) (λ k. refuse k t) (done (with_port p (with_control w (port_at t p)) t))

unfoldable pub unlatched : Port → Port
unlatched p = with_latches no_latches p

-- "Reading the status returns the word and clears that port's six latches, no more."; request [7]: "both clear on a status read with the other six"
unfoldable pub status_at : ℕ → Table → Told (Result ℕ Refusal)
status_at p t =
    tells (status_word (port_at t p).latches (port_at t p).class (condition (port_at t p).state)) (with_port p (unlatched (port_at t p)) t)

-- "Status: 2."
abbrev pub status_refusals : Table → ℕ → List (ℕ × Bool)
status_refusals t p = (13, ill_made t) ∷ (2, leb t.count p) ∷ []

unfoldable pub read_status : Table → ℕ → Told (Result ℕ Refusal)
read_status t p = ladder (status_refusals t p) (λ k. refuse k t) (status_at p t)

unfoldable pub demanding : Power → Port → Port
demanding d p = with_demand d p

-- "Accepted, it becomes the port's demand; nothing else changes."
abbrev pub granting : Power → ℕ → Table → Table
granting d p t = with_port p (demanding d (port_at t p)) t

-- "A demand not above the present one is accepted; a higher one exactly if all closed ports' demands with the change are at most
-- the stored supply, else 12."
unfoldable pub over_supply : Power → ℕ → Table → Bool
over_supply d p t = over d (port_at t p).demand && not (fits (sum_of (closed_sum (granting d p t))) t.supply)

-- "Request: 2, 10, 5, 11, 12."; the level that a value asks for and "over the port's class" are the class's; "for a port in POWER_ON (else 5)"; request [4], where document 01 has "power value outside 1..255":
-- "A request gives 10 for 0 or above 999, and 11 for 256 to 999, after the state check as before."
abbrev pub request_refusals : Table → ℕ → ℕ → List (ℕ × Bool)
request_refusals t p v =
    (13, ill_made t)
    ∷ (2, leb t.count p)
    ∷ (10, eqb v 0 || ltb most_value v)
    ∷ (5, not (in_power_on (port_at t p).state))
    ∷ (11, over_class v (port_at t p).class)
    ∷ (12, over_supply (level_of v) p t)
    ∷ []

unfoldable pub request : Table → ℕ → ℕ → Told (Result Unit Refusal)
request t p v = ladder (request_refusals t p v) (λ k. refuse k t) (done (granting (level_of v) p t))
