-- Each state and each set of latches has its own number, and each number that has a meaning is written again as it was.
-- Assumes nothing.
use mathlib.Core.Path.{◌≡◌, refl, sym, ◌∙◌, ap}
use mathlib.Core.Bool.{◌||◌}
use mathlib.Core.Logic.{⊎_elim}
use Prim.Native.Nat.{ℕ, ◌/◌, ◌%◌, ◌≤◌, ◌<◌, ◌^◌}
use native.Mathlib.Omega.{arith}
use lib.Dec.{eqb}
use borrow.Author.Tests.{eqb-true, ne_eqb}
use Rattle.lists.specs.Bits.{bit}
use Rattle.lists.proofs.Bits.{one_small, one_says}
use Rattle.lists.specs.Places.{tabulate}
use Rattle.lists.proofs.Places.{side, tabulate_at, get_d_tabulate}
use Rattle.lists.specs.Entries.{all}
use Rattle.lists.proofs.Entries.{entry}
use Rattle.status.specs.declared.Latches.{Latches}
use Rattle.port.specs.States.{code_of, closed, in_disabled, in_power_on}
use Rattle.port.specs.declared.form.State.{State}
use Rattle.port.specs.declared.form.State.TheVariants.{Disabled, Idle, Detecting, Backoff, Classifying, PowerUp, PowerOn, ErrorDelay, TestMode, TestError}
use Rattle.cells.specs.Codes.{state_of, latch_byte, latches_of}

-- a state's code names it
pub state_back : (s : State) → state_of (code_of s) ≡ s
state_back Disabled = refl
state_back Idle = refl
state_back Detecting = refl
state_back Backoff = refl
state_back Classifying = refl
state_back PowerUp = refl
state_back PowerOn = refl
state_back ErrorDelay = refl
state_back TestMode = refl
state_back TestError = refl

pub code_small : (s : State) → code_of s ≤ 9
code_small Disabled = omega arith
code_small Idle = omega arith
code_small Detecting = omega arith
code_small Backoff = omega arith
code_small Classifying = omega arith
code_small PowerUp = omega arith
code_small PowerOn = omega arith
code_small ErrorDelay = omega arith
code_small TestMode = omega arith
code_small TestError = omega arith

-- a code up to 9 is the code of the state that it names
pub code_again : (n : ℕ) → n ≤ 9 → code_of (state_of n) ≡ n
unfolding all tabulate
code_again n h =
    ap (λ (m : ℕ). code_of (state_of m)) (sym (get_d_tabulate 10 (λ k. k) 0 n (omega arith)))
    ∙ eqb-true _ _ (entry (λ m. eqb (code_of (state_of m)) m) 0 (tabulate 10 (λ k. k)) refl n (omega arith))
    ∙ get_d_tabulate 10 (λ k. k) 0 n (omega arith)

-- each latch has its own bit
pub latches_back : (l : Latches) → latches_of (latch_byte l) ≡ l
unfolding latches_of latch_byte bit
latches_back l =
    let g = one_small l.disagree in
    let c = one_small l.over_current in
    let d = one_small l.denied in
    let v = one_small l.valid in
    let i = one_small l.invalid in
    let s = one_small l.short in
    let o = one_small l.overload in
    let a = one_small l.absent in
    λ k.
    record {
      disagree = one_says l.disagree (latch_byte l / 2 ^ 7 % 2) (omega arith) k;
      over_current = one_says l.over_current (latch_byte l / 2 ^ 6 % 2) (omega arith) k;
      denied = one_says l.denied (latch_byte l / 2 ^ 5 % 2) (omega arith) k;
      valid = one_says l.valid (latch_byte l / 2 ^ 4 % 2) (omega arith) k;
      invalid = one_says l.invalid (latch_byte l / 2 ^ 3 % 2) (omega arith) k;
      short = one_says l.short (latch_byte l / 2 ^ 2 % 2) (omega arith) k;
      overload = one_says l.overload (latch_byte l / 2 ^ 1 % 2) (omega arith) k;
      absent = one_says l.absent (latch_byte l / 2 ^ 0 % 2) (omega arith) k;
    }

pub latches_small : (l : Latches) → latch_byte l < 256
unfolding latch_byte
latches_small l =
    omega (
      arith,
      one_small l.disagree,
      one_small l.over_current,
      one_small l.denied,
      one_small l.valid,
      one_small l.invalid,
      one_small l.short,
      one_small l.overload,
      one_small l.absent,
    )

-- a byte is the latches that it names
pub latches_again : (n : ℕ) → n < 256 → latch_byte (latches_of n) ≡ n
unfolding all tabulate latch_byte latches_of bit
latches_again n h =
    ap (λ (m : ℕ). latch_byte (latches_of m)) (sym (get_d_tabulate 256 (λ k. k) 0 n h))
    ∙ eqb-true _ _ (entry (λ m. eqb (latch_byte (latches_of m)) m) 0 (tabulate 256 (λ k. k)) refl n h)
    ∙ get_d_tabulate 256 (λ k. k) 0 n h

-- ---- what the rules ask of a state, asked of its code

over_nine : (n : ℕ) → 10 ≤ n → state_of n ≡ TestError
over_nine n h =
    simp (
      ne_eqb n 0 (λ e. omega arith),
      ne_eqb n 1 (λ e. omega arith),
      ne_eqb n 2 (λ e. omega arith),
      ne_eqb n 3 (λ e. omega arith),
      ne_eqb n 4 (λ e. omega arith),
      ne_eqb n 5 (λ e. omega arith),
      ne_eqb n 6 (λ e. omega arith),
      ne_eqb n 7 (λ e. omega arith),
      ne_eqb n 8 (λ e. omega arith),
    )

-- the checker computes both tests at each code that there is
pub disabled_code : (n : ℕ) → in_disabled (state_of n) ≡ eqb n 0
unfolding tabulate
disabled_code n =
    ⊎_elim
    (tabulate_at 10 (λ k. in_disabled (state_of k)) (λ k. eqb k 0) refl n)
    (λ (h : 10 ≤ n). ap in_disabled (over_nine n h) ∙ sym (ne_eqb n 0 (λ e. omega arith)))
    (side n 10)

pub power_on_code : (n : ℕ) → in_power_on (state_of n) ≡ eqb n 6
unfolding tabulate
power_on_code n =
    ⊎_elim
    (tabulate_at 10 (λ k. in_power_on (state_of k)) (λ k. eqb k 6) refl n)
    (λ (h : 10 ≤ n). ap in_power_on (over_nine n h) ∙ sym (ne_eqb n 6 (λ e. omega arith)))
    (side n 10)

pub closed_code : (n : ℕ) → closed (state_of n) ≡ ((eqb n 5 || eqb n 6) || eqb n 8)
unfolding tabulate
closed_code n =
    ⊎_elim
    (tabulate_at 10 (λ k. closed (state_of k)) (λ k. (eqb k 5 || eqb k 6) || eqb k 8) refl n)
    (λ (h : 10 ≤ n). ap closed (over_nine n h) ∙ sym (simp (ne_eqb n 5 (λ e. omega arith), ne_eqb n 6 (λ e. omega arith), ne_eqb n 8 (λ e. omega arith))))
    (side n 10)
