-- What a move tells that it latched is what its port has more: who reads the one need not look at the other.
-- Assumes nothing.
use mathlib.Core.Path.{◌≡◌, refl}
use Rattle.power.specs.declared.Power.{Power}
use Rattle.status.proofs.Laws.{join_none}
use Rattle.status.specs.Status.{join}
use Rattle.port.specs.Entry.{enter}
use Rattle.port.specs.declared.form.Moved.{Moved}
use Rattle.port.specs.declared.form.Port.{Port}
use Rattle.port.specs.declared.form.Reading.{Reading}
use Rattle.outcomes.proofs.Outcomes.{step_outcome}
use Rattle.diagram.specs.Step.{step}

pub latches_told : (claim : Power) (p : Port) (r : Reading) → (step claim p r).port.latches ≡ join p.latches (step claim p r).latched
unfolding enter
latches_told claim p r =
    let none = join_none p.latches in
    step_outcome claim p r (λ (m : Moved). m.port.latches ≡ join p.latches m.latched)
    (record {
      disabled = none;
      yields = none;
      stays = none;
      idle = none;
      detects = λ a. none;
      tests = λ a. none;
      valid = λ a b. refl;
      invalid = λ a. refl;
      backs_off = λ a. refl;
      classed = λ a k d b. none;
      over_current = λ a b. refl;
      disagrees = λ a b. refl;
      short = λ a. refl;
      overload = λ a. refl;
      settles = λ a. none;
      absent = λ a. refl;
    })
