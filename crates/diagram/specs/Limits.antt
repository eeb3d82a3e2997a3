-- The limits of the counters, each of which "is compared "at or over"".
-- Assumes nothing.
use Rattle.std.specs.Prelude.{ℕ, Bool, leb}

-- DETECTING: "at 500 to IDLE"
abbrev pub detecting_ticks : ℕ
detecting_ticks = 500

abbrev pub detecting_ends : ℕ → Bool
detecting_ends n = leb detecting_ticks n

-- BACKOFF: "at 2,000 to IDLE"
abbrev pub backoff_ticks : ℕ
backoff_ticks = 2000

abbrev pub backoff_ends : ℕ → Bool
backoff_ends n = leb backoff_ticks n

-- ERROR_DELAY: "at 750 to IDLE"
abbrev pub error_delay_ticks : ℕ
error_delay_ticks = 750

abbrev pub error_delay_ends : ℕ → Bool
error_delay_ends n = leb error_delay_ticks n

-- CLASSIFYING: "at 400 to IDLE"
abbrev pub classifying_ticks : ℕ
classifying_ticks = 400

abbrev pub classifying_ends : ℕ → Bool
classifying_ends n = leb classifying_ticks n

-- POWER_UP: "the power-on counter runs on: at 400 to IDLE"
abbrev pub power_up_ticks : ℕ
power_up_ticks = 400

abbrev pub power_up_ends : ℕ → Bool
power_up_ends n = leb power_up_ticks n

-- "60 of limiting latches 9, else 60 of overload latches 8"
abbrev pub fault_ticks : ℕ
fault_ticks = 60

abbrev pub fault_by : ℕ → Bool
fault_by n = leb fault_ticks n

-- "In POWER_ON 320 consecutive ticks without load"
abbrev pub no_load_ticks : ℕ
no_load_ticks = 320

abbrev pub load_absent : ℕ → Bool
load_absent n = leb no_load_ticks n
