-- Which currents show class 4, and which failure two currents show, by comparisons of the numbers themselves.
-- Assumes nothing.
use Prim.Native.Nat.{ℕ, ◌≤◌, ◌<◌}
use mathlib.Core.Path.{◌≡◌, refl, sym, ◌∙◌, ap, ap₂}
use mathlib.Core.Bool.{Bool, true, false, cond, not, ◌&&◌}
use mathlib.Core.Logic.{⊎_elim}
use native.Mathlib.Omega.{arith}
use lib.Dec.{eqb, ltb, leb}
use borrow.Author.Tests.{leb-false, lt-ltb, le-ltb, lt-leb}
use Rattle.std.specs.Prelude.{Option, Some, None, Result, Ok, Err}
use Rattle.lists.proofs.Places.{side}
use Rattle.lists.proofs.Tests.{choice_on, not_leb}
use Rattle.class.specs.Class.{class_of, is_four, alone, class_of_two}
use Rattle.class.specs.declared.ClassReading.{ClassReading}
use Rattle.class.specs.declared.Failure.{Failure}
use Rattle.class.specs.declared.Failure.TheVariants.{OverCurrent, Disagree}

-- ---- "to 31,000 class 3; to 45,000 class 4; above, failure"

module _ (P : Option ℕ → Type 0) (i : ℕ) where
  pub low_class : i ≤ 31000 → P (Some 0) → P (Some 1) → P (Some 2) → P (Some 3) → P (class_of i)
  unfolding class_of
  low_class h p0 p1 p2 p3 =
      choice_on P (leb i 5000) _ _ (λ e. p0)
      (λ e. choice_on P (leb i 13000) _ _ (λ e. p1)
      (λ e. choice_on P (leb i 21000) _ _ (λ e. p2)
      (λ e. choice_on P (leb i 31000) _ _ (λ e. p3) (λ e. absurd (omega (arith, leb-false i 31000 e))))))

pub high_class : (i : ℕ) → 31000 < i → class_of i ≡ cond (leb i 45000) (Some 4) None
unfolding class_of
high_class i h = simp (lt-leb i 5000 (omega arith), lt-leb i 13000 (omega arith), lt-leb i 21000 (omega arith), lt-leb i 31000 h)

pub four_is : (i : ℕ) → is_four (class_of i) ≡ (ltb 31000 i && leb i 45000)
unfolding is_four
four_is i =
    ⊎_elim
    (λ (h : 31000 < i). ap is_four (high_class i h) ∙ simp (lt-ltb 31000 i h) (bool (leb i 45000)))
    (λ (h : i ≤ 31000). low_class (λ x. is_four x ≡ false) i h refl refl refl refl ∙ simp (le-ltb 31000 i h))
    (side 31000 i)
  where
    bool : (x : Bool) → is_four (cond x (Some 4) None) ≡ x
    bool true = refl
    bool false = refl

abbrev is_failure : Option ℕ → Bool
is_failure (Some k) = false
is_failure None = true

failure_is : (i : ℕ) → is_failure (class_of i) ≡ ltb 45000 i
failure_is i =
    ⊎_elim
    (λ (h : 31000 < i). ap is_failure (high_class i h) ∙ bool (leb i 45000) ∙ not_leb i 45000)
    (λ (h : i ≤ 31000). low_class (λ x. is_failure x ≡ false) i h refl refl refl refl ∙ simp (le-ltb 45000 i (omega arith)))
    (side 31000 i)
  where
    bool : (x : Bool) → is_failure (cond x (Some 4) None) ≡ not x
    bool true = refl
    bool false = refl

-- ---- two currents

-- their reading, of whether each is class 4 and what the first shows by itself
abbrev chosen : Bool → Bool → Result ℕ Failure → ClassReading
chosen t y e = cond t (record { shown = cond y (Ok 4) (Err Disagree); used = 2 }) (record { shown = e; used = 1 })

abbrev pub reading : Option ℕ → Bool → ClassReading
reading x y = chosen (is_four x) y (alone x)

abbrev pub is_over : Result ℕ Failure → Bool
is_over (Ok k) = false
is_over (Err OverCurrent) = true
is_over (Err Disagree) = false

abbrev pub is_apart : Result ℕ Failure → Bool
is_apart (Ok k) = false
is_apart (Err OverCurrent) = false
is_apart (Err Disagree) = true

over_reading : (x : Option ℕ) (y : Bool) → is_over (reading x y).shown ≡ is_failure x
unfolding is_four
over_reading (Some k) y = bool (eqb k 4) y
  where
    bool : (t y : Bool) → is_over (chosen t y (Ok k)).shown ≡ false
    bool true true = refl
    bool true false = refl
    bool false y = refl
over_reading None y = refl

apart_reading : (x : Option ℕ) (y : Bool) → is_apart (reading x y).shown ≡ (is_four x && not y)
unfolding is_four
apart_reading (Some k) y = bool (eqb k 4) y
  where
    bool : (t y : Bool) → is_apart (chosen t y (Ok k)).shown ≡ (t && not y)
    bool true true = refl
    bool true false = refl
    bool false y = refl
apart_reading None y = refl

used_reading : (t y : Bool) (e : Result ℕ Failure) → (chosen t y e).used ≡ cond t 2 1
used_reading true y e = refl
used_reading false y e = refl

module _ (c1 c2 : ℕ) where
  -- request [7]: "a current above 45,000"
  pub over_is : is_over (class_of_two c1 c2).shown ≡ ltb 45000 c1
  unfolding class_of_two
  over_is = over_reading (class_of c1) (is_four (class_of c2)) ∙ failure_is c1

  -- "a second event that disagrees"; "a second current above 45,000 after a class 4 counts as disagreeing"
  pub apart_is : is_apart (class_of_two c1 c2).shown ≡ ((ltb 31000 c1 && leb c1 45000) && not (ltb 31000 c2 && leb c2 45000))
  unfolding class_of_two
  apart_is = apart_reading (class_of c1) (is_four (class_of c2)) ∙ ap₂ (λ (x y : Bool). x && not y) (four_is c1) (four_is c2)

  -- "how many of the two currents it used"
  pub used_is : (class_of_two c1 c2).used ≡ cond (ltb 31000 c1 && leb c1 45000) 2 1
  unfolding class_of_two
  used_is = used_reading (is_four (class_of c1)) (is_four (class_of c2)) (alone (class_of c1)) ∙ ap (λ (t : Bool). cond t 2 1) (four_is c1)
