-- Laws of tests: what their conjunctions and disjunctions say, and what holds of a choice by one.
-- Assumes nothing.
use mathlib.Core.Path.{◌≡◌, refl, sym, ◌∙◌}
use mathlib.Core.Bool.{Bool, true, false, cond, not, ◌&&◌, ◌||◌, false≢true, true≢false}
use mathlib.Core.Logic.{◌⊎◌, inl, inr}
use Prim.Native.Nat.{ℕ}
use native.Mathlib.Omega.{arith}
use lib.Dec.{eqb, leb, ltb}
use borrow.Author.Tests.{ltb-true, ltb-false, leb-true, leb-false, eqb-true, eqb-false, lt-ltb, le-ltb, le-leb, lt-leb}

-- a test is passed or not
pub passed : (a : Bool) → (a ≡ true) ⊎ (a ≡ false)
passed true = inl refl
passed false = inr refl

pub not_both_lem : (a : Bool) → a ≡ true → a ≡ false → ⊥
not_both_lem a e f = false≢true (sym f ∙ e)

pub and_left : (a b : Bool) → (a && b) ≡ true → a ≡ true
and_left true b e = refl
and_left false b e = e

pub and_right : (a b : Bool) → (a && b) ≡ true → b ≡ true
and_right true b e = e
and_right false b e = absurd (false≢true e)

pub and_both : (a b : Bool) → a ≡ true → b ≡ true → (a && b) ≡ true
and_both a b e f = simp (e, f)

-- a disjunction is passed if one of the two is, and only then
pub or_left : (a b : Bool) → a ≡ true → (a || b) ≡ true
or_left a b e = simp e

pub or_right : (a b : Bool) → b ≡ true → (a || b) ≡ true
or_right true b e = refl
or_right false b e = e

pub or_either : (a b : Bool) → (a || b) ≡ true → (a ≡ true) ⊎ (b ≡ true)
or_either true b e = inl refl
or_either false b e = inr e

-- a disjunction that fails fails on both sides
pub fails_left : (a b : Bool) → (a || b) ≡ false → a ≡ false
fails_left true b e = absurd (true≢false e)
fails_left false b e = refl

pub fails_right : (a b : Bool) → (a || b) ≡ false → b ≡ false
fails_right true b e = absurd (true≢false e)
fails_right false b e = e

pub not_or : (a b : Bool) → not (a || b) ≡ (not a && not b)
not_or true b = refl
not_or false b = refl

-- a comparison that fails is the other one
pub not_ltb : (a b : ℕ) → not (ltb a b) ≡ leb b a
not_ltb a b = go (ltb a b) refl
  where
    go : (t : Bool) → ltb a b ≡ t → not t ≡ leb b a
    go true e = sym (lt-leb b a (ltb-true a b e))
    go false e = sym (le-leb b a (ltb-false a b e))

pub not_leb : (a b : ℕ) → not (leb a b) ≡ ltb b a
not_leb a b = go (leb a b) refl
  where
    go : (t : Bool) → leb a b ≡ t → not t ≡ ltb b a
    go true e = sym (le-ltb b a (leb-true a b e))
    go false e = sym (lt-ltb b a (leb-false a b e))

pub not_zero : (n : ℕ) → not (eqb n 0) ≡ leb 1 n
not_zero n = go (eqb n 0) refl
  where
    go : (t : Bool) → eqb n 0 ≡ t → not t ≡ leb 1 n
    go true e = sym (lt-leb 1 n (omega (arith, eqb-true n 0 e)))
    go false e = sym (le-leb 1 n (omega (arith, eqb-false n 0 e)))

module _ {X : Type 0} (P : X → Type 0) where
  -- and so it is if each is right where the test picks it
  pub choice_on : (t : Bool) (a b : X) → (t ≡ true → P a) → (t ≡ false → P b) → P (cond t a b)
  choice_on true a b p q = p refl
  choice_on false a b p q = q refl

module _ {X : Type 0} (P : X → Type 0) where
  -- a choice of two that are right is right
  pub choice : (t : Bool) (a b : X) → P a → P b → P (cond t a b)
  choice true a b p q = p
  choice false a b p q = q
