-- A move closes no port by itself: it may ask, and the sharing of the supply decides.
-- Assumes nothing.
use mathlib.Core.Path.{◌≡◌, refl}
use mathlib.Core.Bool.{false, true≢false}
use Rattle.lists.proofs.Tests.{not_both_lem}
use Rattle.power.specs.declared.Power.{Power}
use Rattle.port.specs.Entry.{enter}
use Rattle.port.specs.States.{closed}
use Rattle.port.specs.declared.form.Moved.{Moved}
use Rattle.port.specs.declared.form.Port.{Port}
use Rattle.port.specs.declared.form.Reading.{Reading}
use Rattle.outcomes.proofs.Outcomes.{step_outcome}
use Rattle.diagram.specs.Step.{step}

-- faults, and the settling that goes to POWER_ON, are of a port that is closed already
pub open_stays : (claim : Power) (p : Port) (r : Reading) → closed p.state ≡ false → closed (step claim p r).port.state ≡ false
unfolding enter
open_stays claim p r e =
    step_outcome claim p r (λ (m : Moved). closed m.port.state ≡ false)
    (record {
      disabled = refl;
      yields = refl;
      stays = e;
      idle = refl;
      detects = λ a. refl;
      tests = λ a. e;
      valid = λ a b. refl;
      invalid = λ a. refl;
      backs_off = λ a. refl;
      classed = λ a k d b. e;
      over_current = λ a b. refl;
      disagrees = λ a b. refl;
      short = λ a. absurd (not_both_lem _ a e);
      overload = λ a. absurd (not_both_lem _ a e);
      settles = λ a. absurd (true≢false (rw a at e));
      absent = λ a. refl;
    })
