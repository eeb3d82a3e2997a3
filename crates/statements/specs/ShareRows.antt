-- Rows on claims, their ranks, and what a port that is kept or shed becomes. Proved in proofs/MoveRows.
-- Assumes nothing.
use Rattle.std.specs.Prelude.{ℕ, Bool, true, false, List, [], ◌∷◌}
use Rattle.status.specs.Status.{no_latches}
use Rattle.status.specs.declared.Latches.{Latches}
use Rattle.port.specs.Changes.{latch_denied}
use Rattle.settling.specs.Settle.{rank}
use Rattle.port.specs.declared.form.Moved.{Moved}
use Rattle.port.specs.declared.form.Port.{Port}
use Rattle.port.specs.declared.form.State.{State}
use Rattle.port.specs.declared.form.State.TheVariants.{Idle, Detecting, Classifying, PowerUp, PowerOn, ErrorDelay, TestMode, TestError}
use Rattle.statements.specs.MoveWords.{counting, port, latches}
use Rattle.statements.specs.CounterRows.{before}

-- a port after its move, with a control word; it asks or does not
abbrev pub moved : State → ℕ → Bool → Moved
moved s w asks = record { port = port s w 0; latched = no_latches; asks = asks }

pub data Ranks : Type 0 where
  -- the state before the tick and after the move, the control word, whether the port asks
  ranks : State → State → ℕ → Bool → Ranks

unfoldable pub ranked : Ranks → ℕ
ranked (ranks s u w asks) = rank s (moved u w asks)

-- "ports closed before the tick and still in POWER_UP, POWER_ON or TEST_MODE come first, then those asking. Within each: critical, high,
-- then low and unknown alike"; 6 is no claim
unfoldable pub claims : List (Ranks × ℕ)
claims =
    (ranks PowerOn PowerOn 0x0015 false, 0)
    ∷ (ranks PowerOn PowerOn 0x0025 false, 1)
    ∷ (ranks PowerOn PowerOn 0x0035 false, 2)
    ∷ (ranks PowerOn PowerOn 0x0005 false, 2)
    ∷ (ranks PowerUp PowerUp 0x0015 false, 0)
    ∷ (ranks PowerUp PowerOn 0x0015 false, 0)
    ∷ (ranks TestMode TestMode 0x0016 false, 0)
    ∷ (ranks Classifying Classifying 0x0015 true, 3)
    ∷ (ranks Classifying Classifying 0x0025 true, 4)
    ∷ (ranks Classifying Classifying 0x0035 true, 5)
    ∷ (ranks Classifying Classifying 0x0005 true, 5)
    ∷ (ranks Idle Idle 0x0016 true, 3)
    ∷ (ranks Classifying Classifying 0x0015 false, 6)
    ∷ (ranks PowerOn Idle 0x0015 false, 6)
    ∷ (ranks TestMode TestError 0x0016 false, 6)
    ∷ []

pub data Settles : Type 0 where
  -- the rank of the claim, whether it is kept, the state after the move, whether the port asks
  settles : ℕ → Bool → State → Bool → Settles

-- the state that a port settles in, its demand and its latches
pub record Rests : Type 0 where
  pub state : State
  pub demand : ℕ
  pub latches : Latches

abbrev pub resting : Port → Rests
resting p = record { state = p.state; demand = p.demand.0; latches = p.latches }

abbrev pub stays : State → Rests
stays s = record { state = s; demand = 70; latches = no_latches }

abbrev pub denied_idle : Rests
denied_idle = record { state = Idle; demand = 0; latches = latch_denied }

-- "An asker kept enters its state; one shed goes to IDLE. A closed port shed goes to IDLE, or from TEST_MODE to TEST_ERROR. Each shed port
-- latches 12." "Entering IDLE .. sets demand 0, also for a port that is shed, one shed from IDLE included"
unfoldable pub rests : List (Settles × Rests)
rests =
    (settles 3 true Classifying true, stays PowerUp)
    ∷ (settles 3 false Classifying true, denied_idle)
    ∷ (settles 5 true Idle true, stays TestMode)
    ∷ (settles 5 false Idle true, denied_idle)
    ∷ (settles 0 true PowerUp false, stays PowerUp)
    ∷ (settles 0 false PowerUp false, denied_idle)
    ∷ (settles 2 true PowerOn false, stays PowerOn)
    ∷ (settles 2 false PowerOn false, denied_idle)
    ∷ (settles 1 true TestMode false, stays TestMode)
    ∷ (settles 1 false TestMode false, record { state = TestError; demand = 70; latches = latch_denied })
    ∷ (settles 6 false Detecting false, stays Detecting)
    ∷ (settles 6 false ErrorDelay false, stays ErrorDelay)
    ∷ []

-- "consecutive ticks of limiting, and of overload, are counted from POWER_UP's entry"; in TEST_MODE "the same two counts, from its own entry"; a
-- claim that is shed zeroes no counter
abbrev pub asker : State → ℕ → Moved
asker s w = record { port = counting s w before; latched = no_latches; asks = true }
