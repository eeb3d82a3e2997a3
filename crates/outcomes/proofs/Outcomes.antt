-- What a move can come to. A property holds of every move if it holds of each outcome, so what is claimed of all moves need not walk
-- the rules again.
-- Assumes nothing.
use Prim.Native.Nat.{ℕ}
use mathlib.Core.Path.{◌≡◌, refl}
use mathlib.Core.Bool.{true, cond, not, ◌&&◌}
use Rattle.lists.proofs.Tests.{choice}
use Rattle.power.specs.declared.Power.{Power}
use Rattle.control.specs.Control.{enable_of, pair_of}
use Rattle.enable.specs.Enable.{is_off, is_on, is_forced}
use Rattle.port.specs.declared.form.Classing.{Classing}
use Rattle.port.specs.declared.form.Classing.TheVariants.{NotDone as NotClassed, OverCurrent, Disagree, Is}
use Rattle.port.specs.declared.form.Counts.{Counts}
use Rattle.port.specs.declared.form.Detection.{Detection}
use Rattle.port.specs.declared.form.Detection.TheVariants.{NotDone, Valid, Invalid, Open}
use Rattle.port.specs.declared.form.Moved.{Moved}
use Rattle.port.specs.declared.form.Port.{Port}
use Rattle.port.specs.declared.form.Reading.{Reading}
use Rattle.port.specs.declared.form.State.{State}
use Rattle.port.specs.declared.form.State.TheVariants.{Disabled, Idle, Detecting, Backoff, Classifying, PowerUp, PowerOn, ErrorDelay, TestMode, TestError}
use Rattle.port.specs.Changes.{with_class, with_demand, with_counts, detection_at, backoff_at, error_delay_at, power_on_at, no_load_at, quietly, latching, asking, latch_disagree, latch_over_current, latch_valid, latch_invalid, latch_short, latch_overload, latch_absent}
use Rattle.port.specs.Entry.{up, during, enter}
use Rattle.port.specs.States.{closed, in_test, gives_way}
use Rattle.diagram.specs.Limits.{detecting_ends, backoff_ends, error_delay_ends, classifying_ends, power_up_ends, fault_by, load_absent}
use Rattle.diagram.specs.Rules.{is_b, idle, detected, detecting, backoff, error_delay_rule, classed, classifying, stressed, watched, risen, power_up, power_on_rule, test_mode, test_error}
use Rattle.diagram.specs.Step.{by_state, step}

-- "A counter runs only in the states named for it and otherwise stands still"
unfoldable pub advanced : State → Reading → Counts → Counts
advanced Disabled r c = c
advanced Idle r c = c
advanced Detecting r c = detection_at (up c.detection) c
advanced Backoff r c = backoff_at (up c.backoff) c
advanced Classifying r c = power_on_at (up c.power_on) c
advanced PowerUp r c = power_on_at (up c.power_on) (stressed r c)
advanced PowerOn r c = no_load_at (during (not r.load) c.no_load) (stressed r c)
advanced ErrorDelay r c = error_delay_at (up c.error_delay) c
advanced TestMode r c = stressed r c
advanced TestError r c = c

-- "All counters of a state advance before any is compared": the port then
abbrev pub counted : State → Reading → Port → Port
counted s r p = with_counts (advanced s r p.counts) p

-- where 60 of limiting or of overload lead: "both go to ERROR_DELAY", but in TEST_MODE they "go to TEST_ERROR"
abbrev pub faulted : State → State
faulted s = cond (in_test s) TestError ErrorDelay

-- what the move of a port in state s can come to; where one state or one reading alone leads there, that is said first
pub record Outcomes (s : State) (claim : Power) (p : Port) (r : Reading) (P : Moved → Type 0) : Type 0 where
  -- "none advances in a tick that one of the two enable rules next below decides"
  pub disabled : P (quietly (enter Disabled p))
  pub yields : P (quietly (enter Idle p))
  pub stays : P (quietly (counted s r p))
  pub idle : P (quietly (enter Idle (counted s r p)))
  pub detects : s ≡ Idle → P (quietly (enter Detecting (with_class 0 p)))
  pub tests : s ≡ Idle → P (asking (with_demand claim p))
  pub valid : s ≡ Detecting → r.detection ≡ Valid → P (latching latch_valid (enter Classifying (counted s r p)))
  pub invalid : s ≡ Detecting → P (latching latch_invalid (enter Idle (counted s r p)))
  pub backs_off : s ≡ Detecting → P (latching latch_invalid (enter Backoff (counted s r p)))
  pub classed : s ≡ Classifying → (k : ℕ) (d : Power) → r.class ≡ Is k d → P (asking (with_class k (with_demand d (counted s r p))))
  pub over_current : s ≡ Classifying → r.class ≡ OverCurrent → P (latching latch_over_current (enter Idle (counted s r p)))
  pub disagrees : s ≡ Classifying → r.class ≡ Disagree → P (latching latch_disagree (enter Idle (counted s r p)))
  pub short : closed s ≡ true → P (latching latch_short (enter (faulted s) (counted s r p)))
  pub overload : closed s ≡ true → P (latching latch_overload (enter (faulted s) (counted s r p)))
  pub settles : s ≡ PowerUp → P (quietly (enter PowerOn (counted s r p)))
  pub absent : s ≡ PowerOn → P (latching latch_absent (enter Idle (counted s r p)))

module _ (claim : Power) (p : Port) (r : Reading) (P : Moved → Type 0) where
  abbrev Quiet : Port → Type 0
  Quiet x = P (quietly x)

  detected_outcome : Outcomes Detecting claim p r P → (d : Detection) → r.detection ≡ d → P (detected d (counted Detecting r p))
  unfolding detected
  detected_outcome o NotDone e = o.stays
  detected_outcome o Valid e = o.valid refl e
  detected_outcome o Invalid e = choice (λ (x : Port). P (latching latch_invalid x)) (is_b (pair_of p.control)) _ _ (o.backs_off refl) (o.invalid refl)
  detected_outcome o Open e = o.invalid refl

  classed_outcome : Outcomes Classifying claim p r P → (k : Classing) → r.class ≡ k → P (classed k (counted Classifying r p))
  unfolding classed
  classed_outcome o NotClassed e = o.stays
  classed_outcome o OverCurrent e = o.over_current refl e
  classed_outcome o Disagree e = o.disagrees refl e
  classed_outcome o (Is k d) e = o.classed refl k d e

  watched_outcome : (s : State) → closed s ≡ true → Outcomes s claim p r P → (sound : Moved) → P sound → P (watched (counted s r p) (enter (faulted s) (counted s r p)) sound)
  unfolding watched
  watched_outcome s e o sound w =
      let c = advanced s r p.counts in
      choice P (fault_by c.limiting) _ _ (o.short e) (choice P (fault_by c.overload) _ sound (o.overload e) w)

  state_outcome : (s : State) → Outcomes s claim p r P → P (by_state s claim p r)
  unfolding by_state advanced idle detecting backoff error_delay_rule classifying risen power_up power_on_rule test_mode test_error
  state_outcome Disabled o = o.idle
  state_outcome Idle o = choice P (is_on (enable_of p.control)) _ _ (o.detects refl) (choice P (is_forced (enable_of p.control)) _ _ (o.tests refl) o.stays)
  state_outcome Detecting o =
      let c = advanced Detecting r p.counts in
      choice P (detecting_ends c.detection) _ _ o.idle (detected_outcome o r.detection refl)
  state_outcome Backoff o =
      let c = advanced Backoff r p.counts in
      choice Quiet (backoff_ends c.backoff) _ _ o.idle o.stays
  state_outcome Classifying o =
      let c = advanced Classifying r p.counts in
      choice P (classifying_ends c.power_on) _ _ o.idle (classed_outcome o r.class refl)
  state_outcome PowerUp o =
      let c = advanced PowerUp r p.counts in
      watched_outcome PowerUp refl o _ (choice Quiet (power_up_ends c.power_on) _ _ o.idle (choice Quiet r.settled _ _ (o.settles refl) o.stays))
  state_outcome PowerOn o =
      let c = advanced PowerOn r p.counts in
      watched_outcome PowerOn refl o _ (choice P (load_absent c.no_load) _ _ (o.absent refl) o.stays)
  state_outcome ErrorDelay o =
      let c = advanced ErrorDelay r p.counts in
      choice Quiet (error_delay_ends c.error_delay) _ _ o.idle o.stays
  state_outcome TestMode o = choice P (is_forced (enable_of p.control)) _ _ (watched_outcome TestMode refl o _ o.stays) o.idle
  state_outcome TestError o = choice Quiet (is_forced (enable_of p.control)) _ _ o.stays o.idle

  pub step_outcome : Outcomes p.state claim p r P → P (step claim p r)
  unfolding step
  step_outcome o =
      choice P (is_off (enable_of p.control)) _ _ o.disabled
      (choice P (is_forced (enable_of p.control) && gives_way p.state) _ _ o.yields (state_outcome p.state o))
