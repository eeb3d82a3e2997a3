-- A state and the latches as numbers: in a cell of a lent table, and in a byte of an image.
use Rattle.std.specs.Prelude.{ℕ, ◌-◌, cond, eqb}
use Rattle.lists.specs.Bits.{bit}
use Rattle.status.specs.Kinds.{Kind, Disagree, OverCurrent, Denied, Valid, Invalid, Short, Overload, Absent, bit_of, placed}
use Rattle.status.specs.declared.Latches.{Latches}
use Rattle.port.specs.declared.form.State.{State}
use Rattle.port.specs.declared.form.State.TheVariants.{Disabled, Idle, Detecting, Backoff, Classifying, PowerUp, PowerOn, ErrorDelay, TestMode, TestError}

-- the state that a code names (`code_of` of `States` is the other way); a code over 9 is none, and a table that has it is refused
abbrev pub state_of : ℕ → State
state_of n =
    cond (eqb n 0) Disabled
    (cond (eqb n 1) Idle
    (cond (eqb n 2) Detecting
    (cond (eqb n 3) Backoff
    (cond (eqb n 4) Classifying
    (cond (eqb n 5) PowerUp
    (cond (eqb n 6) PowerOn
    (cond (eqb n 7) ErrorDelay
    (cond (eqb n 8) TestMode TestError))))))))

-- docs/CONSOLE.md: "bit 7 events disagree, 6 class over current, 5 denied, 4 valid, 3 invalid, 2 short circuit, 1 overload, 0 load absent":
-- each latch stands seven places lower than in the status word
abbrev pub place_of : Kind → ℕ
place_of kind = bit_of kind - 7

unfoldable pub latch_byte : Latches → ℕ
latch_byte l = placed place_of l

unfoldable pub latches_of : ℕ → Latches
latches_of n =
    record {
      disagree = bit (place_of Disagree) n;
      over_current = bit (place_of OverCurrent) n;
      denied = bit (place_of Denied) n;
      valid = bit (place_of Valid) n;
      invalid = bit (place_of Invalid) n;
      short = bit (place_of Short) n;
      overload = bit (place_of Overload) n;
      absent = bit (place_of Absent) n;
    }
