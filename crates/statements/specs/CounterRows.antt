-- Rows on the counters: how each runs, and what stands in them when a state is left. Proved in proofs/MoveRows.
-- Assumes nothing.
use Rattle.std.specs.Prelude.{ℕ, true, false, List, [], ◌∷◌}
use Rattle.power.specs.Power.{forced}
use Rattle.diagram.specs.Step.{step}
use Rattle.port.specs.declared.form.Classing.TheVariants.{NotDone as NotClassed}
use Rattle.port.specs.declared.form.Counts.{Counts}
use Rattle.port.specs.declared.form.Detection.TheVariants.{NotDone, Valid, Invalid}
use Rattle.port.specs.declared.form.Reading.{Reading}
use Rattle.port.specs.declared.form.State.{State}
use Rattle.port.specs.declared.form.State.TheVariants.{Disabled, Idle, Detecting, Backoff, Classifying, PowerUp, PowerOn, ErrorDelay, TestMode, TestError}
use Rattle.statements.specs.MoveWords.{reads, quiet, detects, settling, limits, overloads, does_both, unloaded, off, on, force, on_b_word, counts, counting, Before, from}

-- the counters after a move of a port that has seven different ones
abbrev pub before : Counts
before = counts 11 22 33 44 55 56 77

unfoldable pub counted : Before → Counts
counted (from s w n r) = (step forced (counting s w before) r).port.counts

-- "Each counter is set to 0 on the entry named, adds one each tick but stops at 2,000"; "A counter runs only in the states named for it and
-- otherwise stands still"; "All counters of a state advance before any is compared; none advances in a tick that one of the two enable
-- rules .. decides."
unfoldable pub counters : List (Before × Counts)
counters =
    (from Detecting off 0 quiet, before)
    ∷ (from Detecting force 0 quiet, before)
    ∷ (from PowerOn force 0 limits, before)
    ∷ (from Disabled on 0 quiet, before)
    ∷ (from Idle on 0 quiet, counts 0 22 33 44 55 56 77)
    ∷ (from Idle force 0 quiet, before)
    ∷ (from Detecting on 0 quiet, counts 12 22 33 44 55 56 77)
    ∷ (from Detecting on 0 (detects Valid), counts 12 22 33 0 55 56 77)
    ∷ (from Detecting on_b_word 0 (detects Invalid), counts 12 0 33 44 55 56 77)
    ∷ (from Backoff on 0 quiet, counts 11 23 33 44 55 56 77)
    ∷ (from ErrorDelay on 0 quiet, counts 11 22 34 44 55 56 77)
    ∷ (from Classifying on 0 quiet, counts 11 22 33 45 55 56 77)
    ∷ (from PowerUp on 0 quiet, counts 11 22 33 45 0 0 77)
    ∷ (from PowerUp on 0 limits, counts 11 22 33 45 56 0 77)
    ∷ (from PowerUp on 0 overloads, counts 11 22 33 45 0 57 77)
    ∷ (from PowerUp on 0 settling, counts 11 22 33 45 0 0 0)
    ∷ (from PowerOn on 0 quiet, counts 11 22 33 44 0 0 0)
    ∷ (from PowerOn on 0 unloaded, counts 11 22 33 44 0 0 78)
    ∷ (from TestMode force 0 does_both, counts 11 22 33 44 56 57 77)
    ∷ (from TestError force 0 quiet, before)
    ∷ []

-- the counters of a port that has others before the tick: its state, its control word, its counters, what its sample reads
pub data Ending : Type 0 where
  ending : State → ℕ → Counts → Reading → Ending

unfoldable pub ended : Ending → Counts
ended (ending s w c r) = (step forced (counting s w c) r).port.counts

-- both faults, and no load
abbrev pub faulty : Reading
faulty = reads NotDone NotClassed false true true false

-- in the tick that enters ERROR_DELAY or TEST_ERROR all counters of the state left have advanced, and ERROR_DELAY's own is 0; DETECTING reaches
-- 500 with its counter; TEST_MODE left because enable is 01 is no tick of the two enable rules, and its two counts run on (our reading)
unfoldable pub endings : List (Ending × Counts)
endings =
    (ending PowerUp on (counts 11 22 33 44 59 7 77) limits, counts 11 22 0 45 60 0 77)
    ∷ (ending PowerUp on (counts 11 22 33 44 7 59 77) overloads, counts 11 22 0 45 0 60 77)
    ∷ (ending PowerOn on (counts 11 22 33 44 59 59 77) faulty, counts 11 22 0 44 60 60 78)
    ∷ (ending TestMode force (counts 11 22 33 44 59 7 77) limits, counts 11 22 33 44 60 0 77)
    ∷ (ending TestMode force (counts 11 22 33 44 7 59 77) overloads, counts 11 22 33 44 0 60 77)
    ∷ (ending Detecting on (counts 499 22 33 44 55 56 77) quiet, counts 500 22 33 44 55 56 77)
    ∷ (ending TestMode on before does_both, counts 11 22 33 44 56 57 77)
    ∷ (ending TestMode on before quiet, counts 11 22 33 44 0 0 77)
    ∷ (ending TestMode off before does_both, before)
    ∷ []
