-- What is proved of specs/Numbers.
-- Assumes nothing.
use Prim.Native.Nat.{ℕ, ◌+◌, ◌≤◌, ◌<◌}
use mathlib.Core.Path.{◌≡◌, refl, sym, ap}
use mathlib.Core.Bool.{Bool, true, false, cond}
use mathlib.Core.List.{List}
use native.Mathlib.Omega.{arith}
use lib.ListN.{length, replicate}
use borrow.Author.Tests.{le-leb, lt-leb, eq-eqb, ne_eqb}
use Rattle.lists.specs.Every.{every}
use Rattle.lists.proofs.Every.{every_not}
use Rattle.lists.specs.Places.{Filled}
use Rattle.lists.proofs.Places.{filled_over}
use Rattle.parts.specs.Decimal.{is_number, number_in, value}
use Rattle.parts.specs.Words.{words}
use Rattle.std.specs.Prelude.{Some, None}
use Rattle.parts.specs.Numbers.{asked, has_numbers, numbers_in}

-- what a word's number says of the word
pub is_number_lem : (w : List ℕ) (m : ℕ) → number_in w ≡ Some m → (is_number w ≡ true) × (m ≡ value w)
unfolding number_in
is_number_lem w m e = go (is_number w) e
  where
    go : (t : Bool) → cond t (Some (value w)) None ≡ Some m → (t ≡ true) × (m ≡ value w)
    go true q = (refl, cc)
    go false q = let z : ◌≡◌ {A = ℕ} 0 1 = cc in absurd (omega arith)

pub no_number : (w : List ℕ) → number_in w ≡ None → is_number w ≡ false
unfolding number_in
no_number w e = go (is_number w) e
  where
    go : (t : Bool) → cond t (Some (value w)) None ≡ None → t ≡ false
    go true q = let z : ◌≡◌ {A = ℕ} 0 1 = cc in absurd (omega arith)
    go false q = refl

module _ (l : List ℕ) (many : ℕ) where
  abbrev Has : ℕ → Bool
  Has p = is_number (asked l p)

  -- why a line has not so many numbers
  pub too_many : 9 < many → numbers_in l many ≡ None
  unfolding numbers_in has_numbers
  too_many h = simp (lt-leb many 9 h)

  pub other_count : many ≤ 9 → (length (words l) ≡ many + 1 → ⊥) → numbers_in l many ≡ None
  unfolding numbers_in has_numbers
  other_count h n = simp (le-leb many 9 h, ne_eqb _ _ n)

  pub one_bad : many ≤ 9 → length (words l) ≡ many + 1 → (p : ℕ) → p < many → is_number (asked l p) ≡ false → numbers_in l many ≡ None
  unfolding numbers_in has_numbers
  one_bad h e p k b = simp (le-leb many 9 h, eq-eqb _ _ e, every_not many Has p k b)

  pub all_good : many ≤ 9 → length (words l) ≡ many + 1 → every many Has ≡ true → (n : List ℕ) → Filled 0 (λ p. value (asked l p)) (replicate 9 0) many n → numbers_in l many ≡ Some n
  unfolding numbers_in has_numbers
  all_good h e g n F =
      simp (le-leb many 9 h, eq-eqb _ _ e, g)
      (ap (λ (xs : List ℕ). Some xs) (sym (filled_over 0 (λ p. value (asked l p)) 0 9 many n F)))
