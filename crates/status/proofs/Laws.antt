-- The status word shows every field that went into it; and latches that are joined.
-- Assumes nothing.
use Prim.Native.Nat.{ℕ, ◌/◌, ◌%◌, ◌<◌}
use mathlib.Core.Path.{◌≡◌}
use mathlib.Core.Bool.{true, false, or-false, or_assoc}
use native.Mathlib.Omega.{arith}
use borrow.Author.Tests.{lt-leb, eq-eqb}
use Rattle.lists.specs.Bits.{field, bit, above}
use Rattle.lists.proofs.Bits.{one_small, one_says}
use Rattle.status.specs.Status.{no_latches, join, condition_code, status_word}
use Rattle.status.specs.declared.Latches.{Latches}
use Rattle.status.specs.declared.Condition.{Condition}
use Rattle.status.specs.declared.Condition.TheVariants.{Disabled as Off, Searching, Delivering, Testing, Faulty}

condition_small : (c : Condition) → condition_code c < 8
condition_small Off = omega arith
condition_small Searching = omega arith
condition_small Delivering = omega arith
condition_small Testing = omega arith
condition_small Faulty = omega arith

-- a status word shows each latch, the class and the condition, and nothing else
pub record Shows (l : Latches) (class : ℕ) (c : Condition) (word : ℕ) : Type 0 where
  pub high : above 15 word ≡ false
  pub disagree : bit 14 word ≡ l.disagree
  pub over_current : bit 13 word ≡ l.over_current
  pub denied : bit 12 word ≡ l.denied
  pub valid : bit 11 word ≡ l.valid
  pub invalid : bit 10 word ≡ l.invalid
  pub short : bit 9 word ≡ l.short
  pub overload : bit 8 word ≡ l.overload
  pub absent : bit 7 word ≡ l.absent
  pub class_field : field 4 3 word ≡ class
  pub condition : field 1 3 word ≡ condition_code c
  pub lowest : bit 0 word ≡ true

pub status_shows : (l : Latches) (class : ℕ) (c : Condition) → class < 8 → Shows l class c (status_word l class c)
unfolding status_word bit field above
status_shows l k c h =
    let i = one_small l.disagree in
    let j = one_small l.over_current in
    let a = one_small l.denied in
    let b = one_small l.valid in
    let d = one_small l.invalid in
    let e = one_small l.short in
    let f = one_small l.overload in
    let g = one_small l.absent in
    let s = condition_small c in
    let w = status_word l k c in
    record {
      high = lt-leb 32768 w (omega arith);
      disagree = one_says l.disagree (w / 16384 % 2) (omega arith);
      over_current = one_says l.over_current (w / 8192 % 2) (omega arith);
      denied = one_says l.denied (w / 4096 % 2) (omega arith);
      valid = one_says l.valid (w / 2048 % 2) (omega arith);
      invalid = one_says l.invalid (w / 1024 % 2) (omega arith);
      short = one_says l.short (w / 512 % 2) (omega arith);
      overload = one_says l.overload (w / 256 % 2) (omega arith);
      absent = one_says l.absent (w / 128 % 2) (omega arith);
      class_field = omega arith;
      condition = omega arith;
      lowest = eq-eqb (w / 1 % 2) 1 (omega arith);
    }

-- ---- latches that are joined
pub join_none : (l : Latches) → l ≡ join l no_latches
unfolding join
join_none l = simp or-false

pub join_assoc : (k l m : Latches) → join (join k l) m ≡ join k (join l m)
unfolding join
join_assoc k l m = simp or_assoc
