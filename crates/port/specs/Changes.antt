-- A port with a field changed, and what a move answers: each written once, since the checker's language has no record update.
use Rattle.std.specs.Prelude.{ℕ, true, false}
use Rattle.power.specs.declared.Power.{Power}
use Rattle.status.specs.Kinds.{only, Disagree, OverCurrent, Denied, Valid, Invalid, Short, Overload, Absent}
use Rattle.status.specs.Status.{no_latches, join}
use Rattle.status.specs.declared.Latches.{Latches}
use Rattle.port.specs.declared.form.State.{State}
use Rattle.port.specs.declared.form.Counts.{Counts}
use Rattle.port.specs.declared.form.Port.{Port}
use Rattle.port.specs.declared.form.Moved.{Moved}

-- a port with one field changed: "every field that no rule names" stands still
abbrev pub with_state : State → Port → Port
with_state s p = record { state = s; class = p.class; control = p.control; demand = p.demand; latches = p.latches; counts = p.counts }

abbrev pub with_class : ℕ → Port → Port
with_class k p = record { state = p.state; class = k; control = p.control; demand = p.demand; latches = p.latches; counts = p.counts }

abbrev pub with_demand : Power → Port → Port
with_demand d p = record { state = p.state; class = p.class; control = p.control; demand = d; latches = p.latches; counts = p.counts }

abbrev pub with_latches : Latches → Port → Port
with_latches l p = record { state = p.state; class = p.class; control = p.control; demand = p.demand; latches = l; counts = p.counts }

abbrev pub with_counts : Counts → Port → Port
with_counts c p = record { state = p.state; class = p.class; control = p.control; demand = p.demand; latches = p.latches; counts = c }

-- counters with one changed
abbrev pub detection_at : ℕ → Counts → Counts
detection_at n c = record { detection = n; backoff = c.backoff; error_delay = c.error_delay; power_on = c.power_on; limiting = c.limiting; overload = c.overload; no_load = c.no_load }

abbrev pub backoff_at : ℕ → Counts → Counts
backoff_at n c = record { detection = c.detection; backoff = n; error_delay = c.error_delay; power_on = c.power_on; limiting = c.limiting; overload = c.overload; no_load = c.no_load }

abbrev pub error_delay_at : ℕ → Counts → Counts
error_delay_at n c = record { detection = c.detection; backoff = c.backoff; error_delay = n; power_on = c.power_on; limiting = c.limiting; overload = c.overload; no_load = c.no_load }

abbrev pub power_on_at : ℕ → Counts → Counts
power_on_at n c = record { detection = c.detection; backoff = c.backoff; error_delay = c.error_delay; power_on = n; limiting = c.limiting; overload = c.overload; no_load = c.no_load }

abbrev pub limiting_at : ℕ → Counts → Counts
limiting_at n c = record { detection = c.detection; backoff = c.backoff; error_delay = c.error_delay; power_on = c.power_on; limiting = n; overload = c.overload; no_load = c.no_load }

abbrev pub overload_at : ℕ → Counts → Counts
overload_at n c = record { detection = c.detection; backoff = c.backoff; error_delay = c.error_delay; power_on = c.power_on; limiting = c.limiting; overload = n; no_load = c.no_load }

abbrev pub no_load_at : ℕ → Counts → Counts
no_load_at n c = record { detection = c.detection; backoff = c.backoff; error_delay = c.error_delay; power_on = c.power_on; limiting = c.limiting; overload = c.overload; no_load = n }

-- what a move answers: it latches nothing and asks nothing
abbrev pub quietly : Port → Moved
quietly p = record { port = p; latched = no_latches; asks = false }

-- it latches, beside what was latched before
abbrev pub latching : Latches → Port → Moved
latching l p = record { port = with_latches (join p.latches l) p; latched = l; asks = false }

-- it asks to be closed
abbrev pub asking : Port → Moved
asking p = record { port = p; latched = no_latches; asks = true }

-- each latch by itself
abbrev pub latch_disagree : Latches
latch_disagree = only Disagree

abbrev pub latch_over_current : Latches
latch_over_current = only OverCurrent

abbrev pub latch_denied : Latches
latch_denied = only Denied

abbrev pub latch_valid : Latches
latch_valid = only Valid

abbrev pub latch_invalid : Latches
latch_invalid = only Invalid

abbrev pub latch_short : Latches
latch_short = only Short

abbrev pub latch_overload : Latches
latch_overload = only Overload

abbrev pub latch_absent : Latches
latch_absent = only Absent
