-- The first that is shed: no shed port's place is lower, and where there is one it is a shed port's.
-- Assumes nothing.
use Prim.Native.Nat.{ℕ, zero, suc, ◌≤◌, ◌<◌}
use mathlib.Core.Path.{◌≡◌, refl, ◌∙◌}
use mathlib.Core.Bool.{true, false}
use mathlib.Core.List.{List}
use mathlib.Core.Logic.{◌⊎◌, inl, inr, ⊎_elim}
use native.Mathlib.Nat.{not-suc-le-zero, eq-or-lt_of_le, le_of_suc-le-suc, le_refl}
use native.Mathlib.Omega.{arith}
use Rattle.lists.proofs.Places.{side}
use Rattle.lists.proofs.Tests.{passed}
use Rattle.second_sharing.specs.Shared.{denied_cell, place_cell, first_shed}

module _ (l m : List ℕ) where
  -- a shed port below n whose place is the first
  pub record First (n : ℕ) : Type 0 where
    pub at : ℕ
    pub below : at < n
    pub denied : denied_cell m at ≡ true
    pub is : first_shed l m n ≡ place_cell l at

  first_small : (n : ℕ) → first_shed l m n ≤ 384
  unfolding first_shed
  first_small zero = le_refl 384
  first_small (suc n) = omega (arith, first_small n)

  pub first_lowest : (n p : ℕ) → p < n → denied_cell m p ≡ true → first_shed l m n ≤ place_cell l p
  unfolding first_shed
  first_lowest zero p h e = absurd (not-suc-le-zero h)
  first_lowest (suc n) p h e =
      ⊎_elim
      (λ (i : p ≡ n). rw i (simp (rw i at e) (omega arith)))
      (λ (k : p < n). omega (arith, first_lowest n p k e))
      (eq-or-lt_of_le (le_of_suc-le-suc h))

  first_still : (n : ℕ) → first_shed l m (suc n) ≡ first_shed l m n → (first_shed l m n ≡ 384) ⊎ First n → (first_shed l m (suc n) ≡ 384) ⊎ First (suc n)
  first_still n e =
      ⊎_elim
      (λ (f : first_shed l m n ≡ 384). inl (e ∙ f))
      (λ (x : First n). inr (record { at = x.at; below = omega (arith, x.below); denied = x.denied; is = e ∙ x.is }))

  pub first_of : (n : ℕ) → (first_shed l m n ≡ 384) ⊎ First n
  unfolding first_shed
  first_of zero = inl refl
  first_of (suc n) =
      ⊎_elim
      (λ (e : denied_cell m n ≡ true).
      ⊎_elim
      (λ (h : place_cell l n < first_shed l m n). inr (record { at = n; below = le_refl (suc n); denied = e; is = simp e (omega arith) }))
      (λ (h : first_shed l m n ≤ place_cell l n). first_still n (simp e (omega arith)) (first_of n))
      (side (place_cell l n) (first_shed l m n)))
      (λ (e : denied_cell m n ≡ false). first_still n (simp e (omega (arith, first_small n))) (first_of n))
      (passed (denied_cell m n))
