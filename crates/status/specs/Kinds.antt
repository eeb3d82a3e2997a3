-- The kinds of latch, and the bit of the status word that each has.
use Rattle.std.specs.Prelude.{ℕ, ◌+◌, Bool, eqb}
use Rattle.lists.specs.Bits.{place}
use Rattle.status.specs.declared.Latches.{Latches}

pub data Kind : Type 0 where
  Disagree : Kind
  OverCurrent : Kind
  Denied : Kind
  Valid : Kind
  Invalid : Kind
  Short : Kind
  Overload : Kind
  Absent : Kind

-- request [7]: "Status bit 13 latches "class over current" and bit 14 "events disagree""; document 01: "latches 12 denied, 11 valid
-- signature, 10 invalid signature, 9 short circuit, 8 overload, 7 load absent"
abbrev pub bit_of : Kind → ℕ
bit_of Disagree = 14
bit_of OverCurrent = 13
bit_of Denied = 12
bit_of Valid = 11
bit_of Invalid = 10
bit_of Short = 9
bit_of Overload = 8
bit_of Absent = 7

-- the latches in a number, each at the place that its kind has there
abbrev pub placed : (Kind → ℕ) → Latches → ℕ
placed at l =
    place (at Disagree) l.disagree + place (at OverCurrent) l.over_current + place (at Denied) l.denied + place (at Valid) l.valid
    + place (at Invalid) l.invalid + place (at Short) l.short + place (at Overload) l.overload + place (at Absent) l.absent

abbrev is : Kind → Kind → Bool
is a b = eqb (bit_of a) (bit_of b)

-- the latch of a kind, and no other
abbrev pub only : Kind → Latches
only kind =
    record {
      disagree = is kind Disagree;
      over_current = is kind OverCurrent;
      denied = is kind Denied;
      valid = is kind Valid;
      invalid = is kind Invalid;
      short = is kind Short;
      overload = is kind Overload;
      absent = is kind Absent;
    }
