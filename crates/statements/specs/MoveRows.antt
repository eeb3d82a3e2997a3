-- Document 01, "The port's move in one tick" and "Sharing the supply": rows of our own, each rule at its limit and one short of it. They
-- are of the definitions themselves, so that a limit or a way that is wrong in a definition and in the code alike is refused.
-- Assumes nothing.
use Rattle.std.specs.Prelude.{true, false, List, [], ◌∷◌}
use Rattle.power.specs.Power.{tenths}
use Rattle.status.specs.Status.{no_latches}
use Rattle.port.specs.Changes.{latch_disagree, latch_over_current, latch_valid, latch_invalid, latch_short, latch_overload, latch_absent}
use Rattle.port.specs.declared.form.Classing.TheVariants.{OverCurrent, Disagree, Is}
use Rattle.port.specs.declared.form.Detection.TheVariants.{Valid, Invalid, Open}
use Rattle.port.specs.declared.form.State.TheVariants.{Disabled, Idle, Detecting, Backoff, Classifying, PowerUp, PowerOn, ErrorDelay, TestMode, TestError}
use Rattle.statements.specs.MoveWords.{quiet, detects, gives, draws, settling, limits, overloads, does_both, unloaded, off, on, force, reserved, on_b_word, Before, Goes, to, to_idle, to_disabled, latches, idle_with, from}

unfoldable pub rows : List (Before × Goes)
rows =
    -- "First, in every state: enable 00 goes to DISABLED."
    (from Disabled off 0 quiet, to_disabled)
    ∷ (from Idle off 0 quiet, to_disabled)
    ∷ (from Detecting off 499 (detects Valid), to_disabled)
    ∷ (from Backoff off 1999 quiet, to_disabled)
    ∷ (from Classifying off 0 (gives (Is 1 (tenths 40))), to_disabled)
    ∷ (from PowerUp off 59 limits, to_disabled)
    ∷ (from PowerOn off 59 limits, to_disabled)
    ∷ (from ErrorDelay off 749 quiet, to_disabled)
    ∷ (from TestMode off 59 limits, to_disabled)
    ∷ (from TestError off 0 quiet, to_disabled)
    -- "Next, enable 10 sends DETECTING, CLASSIFYING, POWER_UP and POWER_ON to IDLE."
    ∷ (from Detecting force 0 (detects Valid), to_idle)
    ∷ (from Classifying force 0 (gives (Is 1 (tenths 40))), to_idle)
    ∷ (from PowerUp force 59 limits, to_idle)
    ∷ (from PowerOn force 59 limits, to_idle)
    ∷ (from Backoff force 0 quiet, to Backoff)
    ∷ (from ErrorDelay force 0 quiet, to ErrorDelay)
    -- "DISABLED goes to IDLE."
    ∷ (from Disabled on 0 quiet, to_idle)
    ∷ (from Disabled force 0 quiet, to_idle)
    -- "IDLE: enable 01 to DETECTING, class set to 0; enable 10 asks for TEST_MODE, demand 154."; 11 forces nothing
    ∷ (from Idle on 0 quiet, record { state = Detecting; class = 0; demand = 70; latched = no_latches; asks = false })
    ∷ (from Idle force 0 quiet, record { state = Idle; class = 2; demand = 154; latched = no_latches; asks = true })
    ∷ (from Idle reserved 0 quiet, to Idle)
    -- "DETECTING (counter from entry): at 500 to IDLE. Else if detection is done": a result in the tick that reaches 500 is not taken
    ∷ (from Detecting on 498 quiet, to Detecting)
    ∷ (from Detecting on 499 quiet, to_idle)
    ∷ (from Detecting on 498 (detects Valid), latches latch_valid Classifying)
    ∷ (from Detecting on 499 (detects Valid), to_idle)
    ∷ (from Detecting on 0 (detects Invalid), idle_with latch_invalid)
    ∷ (from Detecting on 0 (detects Open), idle_with latch_invalid)
    ∷ (from Detecting on_b_word 0 (detects Invalid), latches latch_invalid Backoff)
    ∷ (from Detecting on_b_word 0 (detects Open), idle_with latch_invalid)
    -- "BACKOFF (counter from entry): at 2,000 to IDLE. ERROR_DELAY (counter from entry): at 750 to IDLE."
    ∷ (from Backoff on 1998 quiet, to Backoff)
    ∷ (from Backoff on 1999 quiet, to_idle)
    ∷ (from ErrorDelay on 748 quiet, to ErrorDelay)
    ∷ (from ErrorDelay on 749 quiet, to_idle)
    -- "CLASSIFYING (power-on counter from entry): at 400 to IDLE. Else if class is done: failure to IDLE; a class sets class and demand, and asks for POWER_UP."
    ∷ (from Classifying on 398 quiet, to Classifying)
    ∷ (from Classifying on 399 quiet, to_idle)
    ∷ (from Classifying on 399 (gives (Is 3 (tenths 154))), to_idle)
    ∷ (from Classifying on 398 (gives (Is 3 (tenths 154))), record { state = Classifying; class = 3; demand = 154; latched = no_latches; asks = true })
    -- request [7]: "Status bit 13 latches "class over current" and bit 14 "events disagree" .. The port's moves stay the same.": at 400, and
    -- where an enable rule decides, no failure is taken; and in no other state
    ∷ (from Classifying on 398 (gives OverCurrent), idle_with latch_over_current)
    ∷ (from Classifying on 398 (gives Disagree), idle_with latch_disagree)
    ∷ (from Classifying on 399 (gives OverCurrent), to_idle)
    ∷ (from Classifying on 399 (gives Disagree), to_idle)
    ∷ (from Classifying off 0 (gives OverCurrent), to_disabled)
    ∷ (from Classifying force 0 (gives Disagree), to_idle)
    ∷ (from Detecting on 0 (gives OverCurrent), to Detecting)
    ∷ (from PowerUp on 0 (gives Disagree), to PowerUp)
    -- and from the currents on
    ∷ (from Classifying on 0 (draws 45001 0), idle_with latch_over_current)
    ∷ (from Classifying on 0 (draws 45001 45001), idle_with latch_over_current)
    ∷ (from Classifying on 0 (draws 45000 45001), idle_with latch_disagree)
    ∷ (from Classifying on 0 (draws 45000 31000), idle_with latch_disagree)
    ∷ (from Classifying on 0 (draws 45000 45000), record { state = Classifying; class = 4; demand = 300; latched = no_latches; asks = true })
    ∷ (from Classifying on 0 (draws 31000 45001), record { state = Classifying; class = 3; demand = 154; latched = no_latches; asks = true })
    -- "60 of limiting latches 9, else 60 of overload latches 8; both go to ERROR_DELAY and end the move."
    ∷ (from PowerUp on 58 does_both, to PowerOn)
    ∷ (from PowerUp on 59 limits, latches latch_short ErrorDelay)
    ∷ (from PowerUp on 59 overloads, latches latch_overload ErrorDelay)
    ∷ (from PowerUp on 59 does_both, latches latch_short ErrorDelay)
    ∷ (from PowerUp on 399 does_both, latches latch_short ErrorDelay)
    ∷ (from PowerUp on 59 quiet, to PowerUp)
    ∷ (from PowerOn on 58 does_both, to PowerOn)
    ∷ (from PowerOn on 59 limits, latches latch_short ErrorDelay)
    ∷ (from PowerOn on 59 overloads, latches latch_overload ErrorDelay)
    ∷ (from PowerOn on 319 does_both, latches latch_short ErrorDelay)
    -- "in POWER_UP, the power-on counter runs on: at 400 to IDLE; else settled goes to POWER_ON."
    ∷ (from PowerUp on 398 quiet, to PowerUp)
    ∷ (from PowerUp on 398 settling, to PowerOn)
    ∷ (from PowerUp on 399 settling, to_idle)
    -- "In POWER_ON 320 consecutive ticks without load .. latch 7 and go to IDLE."
    ∷ (from PowerOn on 318 unloaded, to PowerOn)
    ∷ (from PowerOn on 319 unloaded, idle_with latch_absent)
    ∷ (from PowerOn on 319 quiet, to PowerOn)
    ∷ (from PowerOn on 399 settling, to PowerOn)
    -- "TEST_MODE: enable not 10 to IDLE; else the same two counts .. go to TEST_ERROR. TEST_ERROR: enable not 10 to IDLE."
    ∷ (from TestMode on 59 limits, to_idle)
    ∷ (from TestMode force 58 does_both, to TestMode)
    ∷ (from TestMode force 59 limits, latches latch_short TestError)
    ∷ (from TestMode force 59 overloads, latches latch_overload TestError)
    ∷ (from TestMode force 59 does_both, latches latch_short TestError)
    ∷ (from TestMode force 1999 unloaded, to TestMode)
    ∷ (from TestError on 0 quiet, to_idle)
    ∷ (from TestError force 0 limits, to TestError)
    ∷ []
