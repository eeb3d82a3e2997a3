-- Document 01, "The port's move in one tick": the rule of each state, paragraph by paragraph. `p` is the port, `q` the port after
-- its counters have advanced: "All counters of a state advance before any is compared".
use Rattle.std.specs.Prelude.{Bool, true, false, cond, not}
use Rattle.power.specs.declared.Power.{Power}
use Rattle.control.specs.Control.{enable_of, pair_of}
use Rattle.enable.specs.Enable.{is_on, is_forced}
use Rattle.control.specs.declared.Pair.{Pair}
use Rattle.control.specs.declared.Pair.TheVariants.{Neither, A, B, Both}
use Rattle.port.specs.declared.form.Counts.{Counts}
use Rattle.port.specs.declared.form.Port.{Port}
use Rattle.port.specs.declared.form.State.TheVariants.{Idle, Detecting, Backoff, Classifying, PowerOn, ErrorDelay, TestError}
use Rattle.port.specs.declared.form.Detection.{Detection}
use Rattle.port.specs.declared.form.Detection.TheVariants.{NotDone, Valid, Invalid, Open}
use Rattle.port.specs.declared.form.Classing.{Classing}
use Rattle.port.specs.declared.form.Classing.TheVariants.{NotDone as NotClassed, OverCurrent, Disagree, Is}
use Rattle.port.specs.declared.form.Reading.{Reading}
use Rattle.port.specs.declared.form.Moved.{Moved}
use Rattle.diagram.specs.Limits.{detecting_ends, backoff_ends, error_delay_ends, classifying_ends, power_up_ends, fault_by, load_absent}
use Rattle.port.specs.Changes.{with_class, with_demand, with_counts, detection_at, backoff_at, error_delay_at, power_on_at, limiting_at, overload_at, no_load_at, quietly, latching, asking, latch_disagree, latch_over_current, latch_valid, latch_invalid, latch_short, latch_overload, latch_absent}
use Rattle.port.specs.Entry.{up, during, enter}

-- alternative B
abbrev pub is_b : Pair → Bool
is_b Neither = false
is_b A = false
is_b B = true
is_b Both = false

-- "IDLE: enable 01 to DETECTING, class set to 0; enable 10 asks for TEST_MODE, demand 154." The claim is the board's
unfoldable pub idle : Power → Port → Moved
idle claim p =
    cond (is_on (enable_of p.control)) (quietly (enter Detecting (with_class 0 p)))
    (cond (is_forced (enable_of p.control)) (asking (with_demand claim p))
    (quietly p))

-- "Else if detection is done: valid latches 11 and goes to CLASSIFYING; invalid or open latches 10, and goes to BACKOFF if the
-- port is on alternative B and the reading is invalid, else to IDLE."
unfoldable pub detected : Detection → Port → Moved
detected NotDone q = quietly q
detected Valid q = latching latch_valid (enter Classifying q)
detected Invalid q = latching latch_invalid (cond (is_b (pair_of q.control)) (enter Backoff q) (enter Idle q))
detected Open q = latching latch_invalid (enter Idle q)

-- "DETECTING (counter from entry): at 500 to IDLE."
unfoldable pub detecting : Port → Reading → Moved
detecting p r =
    let q = with_counts (detection_at (up p.counts.detection) p.counts) p in
    cond (detecting_ends q.counts.detection) (quietly (enter Idle q)) (detected r.detection q)

-- "BACKOFF (counter from entry): at 2,000 to IDLE."
unfoldable pub backoff : Port → Moved
backoff p =
    let q = with_counts (backoff_at (up p.counts.backoff) p.counts) p in
    quietly (cond (backoff_ends q.counts.backoff) (enter Idle q) q)

-- "ERROR_DELAY (counter from entry): at 750 to IDLE."
unfoldable pub error_delay_rule : Port → Moved
error_delay_rule p =
    let q = with_counts (error_delay_at (up p.counts.error_delay) p.counts) p in
    quietly (cond (error_delay_ends q.counts.error_delay) (enter Idle q) q)

-- "Else if class is done: failure to IDLE; a class sets class and demand, and asks for POWER_UP."; request [7]: "Status bit 13 latches
-- "class over current" and bit 14 "events disagree" .. The port's moves stay the same."
unfoldable pub classed : Classing → Port → Moved
classed NotClassed q = quietly q
classed OverCurrent q = latching latch_over_current (enter Idle q)
classed Disagree q = latching latch_disagree (enter Idle q)
classed (Is k d) q = asking (with_class k (with_demand d q))

-- "CLASSIFYING (power-on counter from entry): at 400 to IDLE."
unfoldable pub classifying : Port → Reading → Moved
classifying p r =
    let q = with_counts (power_on_at (up p.counts.power_on) p.counts) p in
    cond (classifying_ends q.counts.power_on) (quietly (enter Idle q)) (classed r.class q)

-- "consecutive ticks of limiting, and of overload, are counted"
unfoldable pub stressed : Reading → Counts → Counts
stressed r c = limiting_at (during r.limiting c.limiting) (overload_at (during r.overload c.overload) c)

-- "60 of limiting latches 9, else 60 of overload latches 8", and the port goes where `fault` says; otherwise what `sound` says
unfoldable pub watched : Port → Port → Moved → Moved
watched q fault sound =
    cond (fault_by q.counts.limiting) (latching latch_short fault)
    (cond (fault_by q.counts.overload) (latching latch_overload fault)
    sound)

-- "in POWER_UP, the power-on counter runs on: at 400 to IDLE; else settled goes to POWER_ON."
unfoldable pub risen : Bool → Port → Port
risen settled q = cond (power_up_ends q.counts.power_on) (enter Idle q) (cond settled (enter PowerOn q) q)

unfoldable pub power_up : Port → Reading → Moved
power_up p r =
    let q = with_counts (power_on_at (up p.counts.power_on) (stressed r p.counts)) p in
    watched q (enter ErrorDelay q) (quietly (risen r.settled q))

-- "In POWER_ON 320 consecutive ticks without load, counted from its entry, latch 7 and go to IDLE."
unfoldable pub power_on_rule : Port → Reading → Moved
power_on_rule p r =
    let q = with_counts (no_load_at (during (not r.load) p.counts.no_load) (stressed r p.counts)) p in
    watched q (enter ErrorDelay q)
    (cond (load_absent q.counts.no_load) (latching latch_absent (enter Idle q)) (quietly q))

-- "TEST_MODE: enable not 10 to IDLE; else the same two counts, from its own entry, at 60 latch as above (limiting looked at
-- first) and go to TEST_ERROR."
unfoldable pub test_mode : Port → Reading → Moved
test_mode p r =
    let q = with_counts (stressed r p.counts) p in
    cond (is_forced (enable_of p.control)) (watched q (enter TestError q) (quietly q)) (quietly (enter Idle q))

-- "TEST_ERROR: enable not 10 to IDLE."
unfoldable pub test_error : Port → Moved
test_error p = quietly (cond (is_forced (enable_of p.control)) p (enter Idle p))
