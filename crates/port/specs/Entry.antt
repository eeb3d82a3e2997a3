-- Document 01, "The port's move in one tick": how a counter runs, and what entering a state does.
use Rattle.std.specs.Prelude.{ℕ, ◌+◌, min, Bool, cond}
use Rattle.sizes.specs.Sizes.{most_count}
use Rattle.power.specs.Power.{zero_power}
use Rattle.power.specs.declared.Power.{Power}
use Rattle.port.specs.declared.form.Counts.{Counts}
use Rattle.port.specs.declared.form.State.{State}
use Rattle.port.specs.declared.form.State.TheVariants.{Disabled, Idle, Detecting, Backoff, Classifying, PowerUp, PowerOn, ErrorDelay, TestMode, TestError}
use Rattle.port.specs.declared.form.Port.{Port}
use Rattle.port.specs.Changes.{with_state, with_demand, with_counts, detection_at, backoff_at, error_delay_at, power_on_at, limiting_at, overload_at, no_load_at}

-- "adds one each tick but stops at 2,000"
unfoldable pub up : ℕ → ℕ
up n = min (n + 1) most_count

-- "consecutive ticks .. are counted .. (a tick without sets 0)"
unfoldable pub during : Bool → ℕ → ℕ
during runs n = cond runs (up n) 0

-- "Each counter is set to 0 on the entry named": "DETECTING (counter from entry)", "BACKOFF (counter from entry)", "CLASSIFYING
-- (power-on counter from entry)", "consecutive ticks of limiting, and of overload, are counted from POWER_UP's entry", "320 consecutive
-- ticks without load, counted from its entry" (POWER_ON), "ERROR_DELAY (counter from entry)", "the same two counts, from its own entry"
-- (TEST_MODE). A counter "otherwise stands still"
abbrev pub counts_on_entry : State → Counts → Counts
counts_on_entry Disabled c = c
counts_on_entry Idle c = c
counts_on_entry Detecting c = detection_at 0 c
counts_on_entry Backoff c = backoff_at 0 c
counts_on_entry Classifying c = power_on_at 0 c
counts_on_entry PowerUp c = limiting_at 0 (overload_at 0 c)
counts_on_entry PowerOn c = no_load_at 0 c
counts_on_entry ErrorDelay c = error_delay_at 0 c
counts_on_entry TestMode c = limiting_at 0 (overload_at 0 c)
counts_on_entry TestError c = c

-- "Entering IDLE or DISABLED sets demand 0"
abbrev pub demand_on_entry : State → Power → Power
demand_on_entry Disabled d = zero_power
demand_on_entry Idle d = zero_power
demand_on_entry Detecting d = d
demand_on_entry Backoff d = d
demand_on_entry Classifying d = d
demand_on_entry PowerUp d = d
demand_on_entry PowerOn d = d
demand_on_entry ErrorDelay d = d
demand_on_entry TestMode d = d
demand_on_entry TestError d = d

-- a port that goes to a state: "every field that no rule names" stands still
unfoldable pub enter : State → Port → Port
enter s p = with_state s (with_demand (demand_on_entry s p.demand) (with_counts (counts_on_entry s p.counts) p))
