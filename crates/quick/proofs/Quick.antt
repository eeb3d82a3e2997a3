-- When a move changes counters and nothing else. A reader of the move needs none of this: `step` is its meaning, and `quick_is_step`
-- says that the two agree. Limits and counting are those of `Rules` and `Entry`.
-- Assumes nothing.
use Rattle.std.proofs.Common.{◌≡◌, ℕ, Bool, true, false, cond, not, ◌&&◌, refl, ap, ◌∙◌, arith, eqb-true, Option, Some, None}
use mathlib.Core.Bool.{false≢true, and-false}
use borrow.Author.Tests.{not-true}
use Rattle.lists.proofs.Tests.{and_left, and_right}
use Rattle.power.specs.Power.{zero_power, same}
use Rattle.power.specs.declared.Power.{Power}
use Rattle.control.specs.Control.{enable_of}
use Rattle.enable.specs.Enable.{is_off, is_on, is_forced}
use Rattle.control.specs.declared.Enable.{Enable}
use Rattle.control.specs.declared.Enable.TheVariants.{Disabled as Off, Enabled, Forced, Reserved}
use Rattle.port.specs.declared.form.Classing.{Classing}
use Rattle.port.specs.declared.form.Classing.TheVariants.{NotDone as NotClassed, OverCurrent, Disagree, Is}
use Rattle.port.specs.declared.form.Counts.{Counts}
use Rattle.port.specs.declared.form.Detection.{Detection}
use Rattle.port.specs.declared.form.Detection.TheVariants.{NotDone, Valid, Invalid, Open}
use Rattle.port.specs.declared.form.Moved.{Moved}
use Rattle.port.specs.declared.form.Port.{Port}
use Rattle.port.specs.declared.form.Reading.{Reading}
use Rattle.port.specs.declared.form.State.{State}
use Rattle.port.specs.declared.form.State.TheVariants.{Disabled, Idle, Detecting, Backoff, Classifying, PowerUp, PowerOn, ErrorDelay, TestMode, TestError}
use Rattle.quick.specs.declared.FlagsShown.{FlagsShown}
use Rattle.port.specs.Changes.{with_counts, detection_at, backoff_at, error_delay_at, power_on_at, limiting_at, overload_at, no_load_at, quietly}
use Rattle.port.specs.Entry.{up, during, enter}
use Rattle.diagram.specs.Limits.{detecting_ends, backoff_ends, error_delay_ends, classifying_ends, power_up_ends, fault_by, load_absent}
use Rattle.diagram.specs.Rules.{detected, detecting, backoff, error_delay_rule, classed, classifying, stressed, watched, risen, power_up, power_on_rule, test_mode, test_error}
use Rattle.port.specs.States.{gives_way}
use Rattle.diagram.specs.Step.{by_state, step}

-- what a reading shows before the signature and the class are worked out
abbrev pub is_done : Detection → Bool
is_done NotDone = false
is_done Valid = true
is_done Invalid = true
is_done Open = true

abbrev pub is_classed : Classing → Bool
is_classed NotClassed = false
is_classed OverCurrent = true
is_classed Disagree = true
is_classed (Is k d) = true

unfoldable pub signs_of : Reading → FlagsShown
signs_of r = record { detected = is_done r.detection; classed = is_classed r.class; settled = r.settled; limiting = r.limiting; overload = r.overload; load = r.load }

abbrev pub only : Bool → Counts → Option Counts
only stays c = cond stays (Some c) None

abbrev pub stressed_by : FlagsShown → Counts → Counts
stressed_by s c = limiting_at (during s.limiting c.limiting) (overload_at (during s.overload c.overload) c)

-- no fault by the counters
abbrev pub calm : Counts → Bool
calm c = not (fault_by c.limiting) && not (fault_by c.overload)

unfoldable pub quick_detecting : Enable → FlagsShown → Counts → Option Counts
quick_detecting e s c = only ((is_on e && not s.detected) && not (detecting_ends (up c.detection))) (detection_at (up c.detection) c)

unfoldable pub quick_backoff : Enable → Counts → Option Counts
quick_backoff e c = only (not (is_off e) && not (backoff_ends (up c.backoff))) (backoff_at (up c.backoff) c)

unfoldable pub quick_error_delay : Enable → Counts → Option Counts
quick_error_delay e c = only (not (is_off e) && not (error_delay_ends (up c.error_delay))) (error_delay_at (up c.error_delay) c)

unfoldable pub quick_classifying : Enable → FlagsShown → Counts → Option Counts
quick_classifying e s c = only ((is_on e && not s.classed) && not (classifying_ends (up c.power_on))) (power_on_at (up c.power_on) c)

unfoldable pub quick_power_up : Enable → FlagsShown → Counts → Option Counts
quick_power_up e s c =
    only (((is_on e && not s.settled) && not (power_up_ends (up c.power_on))) && calm (stressed_by s c)) (power_on_at (up c.power_on) (stressed_by s c))

unfoldable pub quick_power_on : Enable → FlagsShown → Counts → Option Counts
quick_power_on e s c =
    only ((is_on e && not (load_absent (during (not s.load) c.no_load))) && calm (stressed_by s c)) (no_load_at (during (not s.load) c.no_load) (stressed_by s c))

unfoldable pub quick_test_mode : Enable → FlagsShown → Counts → Option Counts
quick_test_mode e s c = only (is_forced e && calm (stressed_by s c)) (stressed_by s c)

-- by the state; a port in DISABLED that stays there keeps its counters and, having no demand, everything
unfoldable pub quick_in : State → Enable → Power → FlagsShown → Counts → Option Counts
quick_in Disabled e d s c = only (is_off e && same d zero_power) c
quick_in Idle e d s c = None
quick_in Detecting e d s c = quick_detecting e s c
quick_in Backoff e d s c = quick_backoff e c
quick_in Classifying e d s c = quick_classifying e s c
quick_in PowerUp e d s c = quick_power_up e s c
quick_in PowerOn e d s c = quick_power_on e s c
quick_in ErrorDelay e d s c = quick_error_delay e c
quick_in TestMode e d s c = quick_test_mode e s c
quick_in TestError e d s c = only (is_forced e) c

unfoldable pub quickly : Port → FlagsShown → Option Counts
quickly p s = quick_in p.state (enable_of p.control) p.demand s p.counts

-- ---- the quick answer is the step's

only_says : (t : Bool) (c d : Counts) → only t c ≡ Some d → (t ≡ true) × (c ≡ d)
only_says true c d e = (refl, cc)
only_says false c d e = let z : ◌≡◌ {A = ℕ} 0 1 = cc in absurd (omega arith)

-- what an enable code is not
on_not_off : (e : Enable) → is_on e ≡ true → is_off e ≡ false
on_not_off Off h = absurd (false≢true h)
on_not_off Enabled h = refl
on_not_off Forced h = refl
on_not_off Reserved h = refl

on_not_forced : (e : Enable) → is_on e ≡ true → is_forced e ≡ false
on_not_forced Off h = refl
on_not_forced Enabled h = refl
on_not_forced Forced h = absurd (false≢true h)
on_not_forced Reserved h = refl

forced_not_off : (e : Enable) → is_forced e ≡ true → is_off e ≡ false
forced_not_off Off h = absurd (false≢true h)
forced_not_off Enabled h = refl
forced_not_off Forced h = refl
forced_not_off Reserved h = refl

not_done : (d : Detection) → not (is_done d) ≡ true → d ≡ NotDone
not_done NotDone h = refl
not_done Valid h = absurd (false≢true h)
not_done Invalid h = absurd (false≢true h)
not_done Open h = absurd (false≢true h)

not_classed : (k : Classing) → not (is_classed k) ≡ true → k ≡ NotClassed
not_classed NotClassed h = refl
not_classed OverCurrent h = absurd (false≢true h)
not_classed Disagree h = absurd (false≢true h)
not_classed (Is k d) h = absurd (false≢true h)

module _ (claim : Power) (p : Port) (r : Reading) where
  abbrev enable : Enable
  enable = enable_of p.control

  -- a port that neither of the two enable rules moves
  onward : (s : State) → p.state ≡ s → is_off enable ≡ false → (is_forced enable && gives_way s) ≡ false → step claim p r ≡ by_state s claim p r
  unfolding step
  onward s st off way = rw st (simp (off, way))

  on_goes : (s : State) → p.state ≡ s → is_on enable ≡ true → step claim p r ≡ by_state s claim p r
  on_goes s st on = onward s st (on_not_off enable on) (ap (λ b. b && gives_way s) (on_not_forced enable on))

  -- the counters that the answer has are those of the port after the move
  with : (c d : Counts) (m : Moved) → c ≡ d → m ≡ quietly (with_counts c p) → m ≡ quietly (with_counts d p)
  with c d m e h = h ∙ ap (λ k. quietly (with_counts k p)) e

  stays_disabled : (c : Counts) → p.state ≡ Disabled → only (is_off enable && same p.demand zero_power) p.counts ≡ Some c → step claim p r ≡ quietly (with_counts c p)
  unfolding step enter same
  stays_disabled c st e =
      let h = only_says _ _ c e in
      let none : p.demand ≡ zero_power = λ k. record { 0 = eqb-true p.demand.0 0 (and_right (is_off enable) (same p.demand zero_power) h.0) k } in
      with p.counts c _ h.1 (simp (and_left (is_off enable) (same p.demand zero_power) h.0, st, none))

  stays_detecting : (c : Counts) → p.state ≡ Detecting → quick_detecting enable (signs_of r) p.counts ≡ Some c → step claim p r ≡ quietly (with_counts c p)
  unfolding quick_detecting signs_of by_state detecting detected
  stays_detecting c st e =
      let h = only_says _ _ c e in
      let both = and_left _ _ h.0 in
      let none = not_done r.detection (and_right (is_on enable) _ both) in
      let early = not-true (detecting_ends (up p.counts.detection)) (and_right (is_on enable && not (is_done r.detection)) _ h.0) in
      with _ c _ h.1 (on_goes Detecting st (and_left _ _ both) ∙ simp (early, none))

  stays_backoff : (c : Counts) → p.state ≡ Backoff → quick_backoff enable p.counts ≡ Some c → step claim p r ≡ quietly (with_counts c p)
  unfolding quick_backoff by_state backoff
  stays_backoff c st e =
      let h = only_says _ _ c e in
      let off = not-true (is_off enable) (and_left _ _ h.0) in
      let early = not-true (backoff_ends (up p.counts.backoff)) (and_right (not (is_off enable)) _ h.0) in
      with _ c _ h.1 (onward Backoff st off (and-false (is_forced enable)) ∙ simp early)

  stays_error_delay : (c : Counts) → p.state ≡ ErrorDelay → quick_error_delay enable p.counts ≡ Some c → step claim p r ≡ quietly (with_counts c p)
  unfolding quick_error_delay by_state error_delay_rule
  stays_error_delay c st e =
      let h = only_says _ _ c e in
      let off = not-true (is_off enable) (and_left _ _ h.0) in
      let early = not-true (error_delay_ends (up p.counts.error_delay)) (and_right (not (is_off enable)) _ h.0) in
      with _ c _ h.1 (onward ErrorDelay st off (and-false (is_forced enable)) ∙ simp early)

  stays_classifying : (c : Counts) → p.state ≡ Classifying → quick_classifying enable (signs_of r) p.counts ≡ Some c → step claim p r ≡ quietly (with_counts c p)
  unfolding quick_classifying signs_of by_state classifying classed
  stays_classifying c st e =
      let h = only_says _ _ c e in
      let both = and_left _ _ h.0 in
      let none = not_classed r.class (and_right (is_on enable) _ both) in
      let early = not-true (classifying_ends (up p.counts.power_on)) (and_right (is_on enable && not (is_classed r.class)) _ h.0) in
      with _ c _ h.1 (on_goes Classifying st (and_left _ _ both) ∙ simp (early, none))

  -- what the counters after the move say of faults
  abbrev stress : Counts
  stress = stressed_by (signs_of r) p.counts

  stays_power_up : (c : Counts) → p.state ≡ PowerUp → quick_power_up enable (signs_of r) p.counts ≡ Some c → step claim p r ≡ quietly (with_counts c p)
  unfolding quick_power_up signs_of by_state power_up stressed watched risen
  stays_power_up c st e =
      let h = only_says _ _ c e in
      let three = and_left _ _ h.0 in
      let two = and_left _ _ three in
      let early = not-true (power_up_ends (up p.counts.power_on)) (and_right (is_on enable && not r.settled) _ three) in
      let rough = and_right ((is_on enable && not r.settled) && not (power_up_ends (up p.counts.power_on))) _ h.0 in
      with _ c _ h.1
      (on_goes PowerUp st (and_left _ _ two)
      ∙ simp (not-true (fault_by stress.limiting) (and_left _ _ rough), not-true (fault_by stress.overload) (and_right (not (fault_by stress.limiting)) _ rough), early, not-true r.settled (and_right (is_on enable) _ two)))

  stays_power_on : (c : Counts) → p.state ≡ PowerOn → quick_power_on enable (signs_of r) p.counts ≡ Some c → step claim p r ≡ quietly (with_counts c p)
  unfolding quick_power_on signs_of by_state power_on_rule stressed watched
  stays_power_on c st e =
      let h = only_says _ _ c e in
      let two = and_left _ _ h.0 in
      let early = not-true (load_absent (during (not r.load) p.counts.no_load)) (and_right (is_on enable) _ two) in
      let rough = and_right (is_on enable && not (load_absent (during (not r.load) p.counts.no_load))) _ h.0 in
      with _ c _ h.1
      (on_goes PowerOn st (and_left _ _ two)
      ∙ simp (not-true (fault_by stress.limiting) (and_left _ _ rough), not-true (fault_by stress.overload) (and_right (not (fault_by stress.limiting)) _ rough), early))

  stays_test_mode : (c : Counts) → p.state ≡ TestMode → quick_test_mode enable (signs_of r) p.counts ≡ Some c → step claim p r ≡ quietly (with_counts c p)
  unfolding quick_test_mode signs_of by_state test_mode stressed watched
  stays_test_mode c st e =
      let h = only_says _ _ c e in
      let forced = and_left _ _ h.0 in
      let rough = and_right (is_forced enable) _ h.0 in
      with _ c _ h.1
      (onward TestMode st (forced_not_off enable forced) (and-false (is_forced enable))
      ∙ simp (forced, not-true (fault_by stress.limiting) (and_left _ _ rough), not-true (fault_by stress.overload) (and_right (not (fault_by stress.limiting)) _ rough)))

  stays_test_error : (c : Counts) → p.state ≡ TestError → only (is_forced enable) p.counts ≡ Some c → step claim p r ≡ quietly (with_counts c p)
  unfolding by_state test_error
  stays_test_error c st e =
      let h = only_says _ _ c e in
      with _ c _ h.1 (onward TestError st (forced_not_off enable h.0) (and-false (is_forced enable)) ∙ simp h.0)

  by_case : (s : State) (c : Counts) → p.state ≡ s → quick_in s enable p.demand (signs_of r) p.counts ≡ Some c → step claim p r ≡ quietly (with_counts c p)
  unfolding quick_in
  by_case Disabled c st e = stays_disabled c st e
  by_case Idle c st e = let z : ◌≡◌ {A = ℕ} 0 1 = cc in absurd (omega arith)
  by_case Detecting c st e = stays_detecting c st e
  by_case Backoff c st e = stays_backoff c st e
  by_case Classifying c st e = stays_classifying c st e
  by_case PowerUp c st e = stays_power_up c st e
  by_case PowerOn c st e = stays_power_on c st e
  by_case ErrorDelay c st e = stays_error_delay c st e
  by_case TestMode c st e = stays_test_mode c st e
  by_case TestError c st e = stays_test_error c st e

  -- where the quick answer has counters, the step is to set them
  pub quick_is_step : (c : Counts) → quickly p (signs_of r) ≡ Some c → step claim p r ≡ quietly (with_counts c p)
  unfolding quickly
  quick_is_step c e = by_case p.state c refl e
