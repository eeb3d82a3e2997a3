-- Document 01's ten states in one table. What the rules ask of a state is a column of it, and each predicate is read off its column.
use Rattle.std.specs.Prelude.{ℕ, Bool, true, false}
use Rattle.status.specs.declared.Condition.{Condition}
use Rattle.status.specs.declared.Condition.TheVariants.{Disabled as Off, Searching, Delivering, Testing, Faulty}
use Rattle.port.specs.declared.form.State.{State}
use Rattle.port.specs.declared.form.State.TheVariants.{Disabled, Idle, Detecting, Backoff, Classifying, PowerUp, PowerOn, ErrorDelay, TestMode, TestError}

pub record Row : Type 0 where
  -- in an image: docs/CONSOLE.md, "0 DISABLED, 1 IDLE, 2 DETECTING, .."
  pub code : ℕ
  -- "A port is closed exactly in POWER_UP, POWER_ON and TEST_MODE."
  pub closed : Bool
  -- the forced test state
  pub test : Bool
  -- "enable 10 sends DETECTING, CLASSIFYING, POWER_UP and POWER_ON to IDLE"
  pub yields : Bool
  -- "Condition: 0 in DISABLED, 1 in IDLE, DETECTING, BACKOFF, CLASSIFYING, 2 in POWER_UP, POWER_ON, 3 in TEST_MODE, 4 in ERROR_DELAY, TEST_ERROR."
  pub condition : Condition
  -- the three states that a rule asks for by name
  pub disabled : Bool
  pub idle : Bool
  pub on : Bool

abbrev line : ℕ → Bool → Bool → Bool → Condition → Bool → Bool → Bool → Row
line k c t y d off i on = record { code = k; closed = c; test = t; yields = y; condition = d; disabled = off; idle = i; on = on }

-- code, closed, forced test, yields to enable 10, condition; DISABLED, IDLE, POWER_ON
abbrev pub row : State → Row
row Disabled = line 0 false false false Off true false false
row Idle = line 1 false false false Searching false true false
row Detecting = line 2 false false true Searching false false false
row Backoff = line 3 false false false Searching false false false
row Classifying = line 4 false false true Searching false false false
row PowerUp = line 5 true false true Delivering false false false
row PowerOn = line 6 true false true Delivering false false true
row ErrorDelay = line 7 false false false Faulty false false false
row TestMode = line 8 true true false Testing false false false
row TestError = line 9 false false false Faulty false false false

abbrev pub code_of : State → ℕ
code_of s = (row s).code

abbrev pub closed : State → Bool
closed s = (row s).closed

abbrev pub in_test : State → Bool
in_test s = (row s).test

abbrev pub gives_way : State → Bool
gives_way s = (row s).yields

abbrev pub condition : State → Condition
condition s = (row s).condition

abbrev pub in_disabled : State → Bool
in_disabled s = (row s).disabled

abbrev pub is_idle : State → Bool
is_idle s = (row s).idle

abbrev pub in_power_on : State → Bool
in_power_on s = (row s).on
