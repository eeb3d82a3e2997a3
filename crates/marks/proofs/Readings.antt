-- A valid signature and a class, by tests on the numbers themselves.
-- Assumes nothing.
use Prim.Native.Nat.{ℕ, zero, suc, ◌+◌, ◌-◌, ◌*◌, ◌≤◌, ◌<◌}
use mathlib.Core.Path.{◌≡◌, refl, sym, ◌∙◌, ap, ap₂}
use mathlib.Core.Bool.{Bool, true, false, cond, not, ◌&&◌, ◌||◌}
use mathlib.Core.Logic.{⊎_elim}
use native.Mathlib.Omega.{arith}
use lib.Dec.{ltb, leb}
use lib.IntN.{ℤ, pos, sub_ℕ, ◌-ℤ◌}
use lib.Signed.{lt_z, le_z}
use borrow.Author.Tests.{ltb-true, ltb-false, leb-true, leb-false, lt-ltb, le-ltb, le-leb, lt-leb}
use Rattle.std.specs.Prelude.{Option, Some, None}
use Rattle.lists.proofs.Tests.{choice_on, or_either, or_right, fails_left, fails_right, not_leb}
use Rattle.class.specs.Class.{class_of, is_four, class_of_two}
use Rattle.statements.proofs.Currents.{low_class, high_class, four_is, reading}
use Rattle.signature.specs.Signature.{outside, signature_of}
use Rattle.signature.specs.declared.Signature.{Signature}
use Rattle.signature.specs.declared.Signature.TheVariants.{Valid, Invalid, Open}
use Rattle.statements.specs.History.{is_valid, is_class}

-- ---- "dV = V2 - V1 and dI = I2 - I1 are signed."

signed : (a b : ℕ) → pos a -ℤ pos b ≡ sub_ℕ a b
signed a zero = let e : a + 0 ≡ a - 0 = omega arith in simp (le-ltb a 0 (omega arith)) (ap pos e)
signed a (suc b) = refl

rises : (a b : ℕ) → b ≤ a → pos a -ℤ pos b ≡ pos (a - b)
rises a b h = signed a b ∙ simp (le-ltb a b h)

-- a difference that falls, or rises by little
little : (a b k : ℕ) → a < b + k → lt_z (pos a -ℤ pos b) (pos k) ≡ true
little a b k h =
    ap (λ (z : ℤ). lt_z z (pos k)) (signed a b)
    ∙ choice_on (λ (z : ℤ). lt_z z (pos k) ≡ true) (ltb a b) _ _ (λ e. refl) (λ e. lt-ltb (a - b) k (omega (arith, ltb-false a b e)))

falls : (a b : ℕ) → a ≤ b → le_z (pos a -ℤ pos b) (pos 0) ≡ true
falls a b h =
    ap (λ (z : ℤ). le_z z (pos 0)) (signed a b)
    ∙ choice_on (λ (z : ℤ). le_z z (pos 0) ≡ true) (ltb a b) _ _ (λ e. refl) (λ e. le-leb (a - b) 0 (omega arith))

either_of : (a b c d : Bool) → ((a || b) || (c || d)) ≡ (((a || b) || c) || d)
either_of true b c d = refl
either_of false true c d = refl
either_of false false c d = refl

module _ (v1 v2 i1 i2 : ℕ) where
  abbrev out : Bool
  out = ((ltb v1 2800 || ltb 10000 v1) || ltb v2 2800) || ltb 10000 v2

  out_is : (outside v1 || outside v2) ≡ out
  unfolding outside
  out_is = either_of (ltb v1 2800) (ltb 10000 v1) (ltb v2 2800) (ltb 10000 v2)

  -- "Invalid if V1 or V2 is outside 2,800..10,000"
  pub out_fails : out ≡ true → false ≡ is_valid (signature_of v1 v2 i1 i2)
  unfolding signature_of
  out_fails e = simp (out_is ∙ e)

  -- "or dV < 1,000. Otherwise open if dI <= 0"
  pub flat_fails : (ltb v2 (v1 + 1000) || leb i2 i1) ≡ true → false ≡ is_valid (signature_of v1 v2 i1 i2)
  unfolding signature_of
  flat_fails e =
      ⊎_elim
      (λ (l : ltb v2 (v1 + 1000) ≡ true). simp (or_right (outside v1 || outside v2) _ (little v2 v1 1000 (ltb-true v2 (v1 + 1000) l))))
      (λ (l : leb i2 i1 ≡ true). choice_on (λ (s : Signature). false ≡ is_valid s) ((outside v1 || outside v2) || lt_z (pos v2 -ℤ pos v1) (pos 1000)) _ _ (λ q. refl) (λ q. simp (falls i2 i1 (leb-true i2 i1 l))))
      (or_either (ltb v2 (v1 + 1000)) (leb i2 i1) e)

  -- what is left rises
  pub steep : (ltb v2 (v1 + 1000) || leb i2 i1) ≡ false → (v1 + 1000 ≤ v2) × (i1 < i2)
  steep f = (ltb-false v2 (v1 + 1000) (fails_left (ltb v2 (v1 + 1000)) (leb i2 i1) f), leb-false i2 i1 (fails_right (ltb v2 (v1 + 1000)) (leb i2 i1) f))

  -- "or dV >= 500 dI. Otherwise valid if 19 dI <= dV and 2 dV <= 53 dI; else invalid."
  pub slope_is : out ≡ false → (ltb v2 (v1 + 1000) || leb i2 i1) ≡ false
      → ((ltb (v2 - v1) (500 * (i2 - i1)) && leb (19 * (i2 - i1)) (v2 - v1)) && leb (2 * (v2 - v1)) (53 * (i2 - i1))) ≡ is_valid (signature_of v1 v2 i1 i2)
  unfolding signature_of
  slope_is e f =
      let s = steep f in
      simp (out_is ∙ e, rises v2 v1 (omega arith), rises i2 i1 (omega arith), le-ltb (v2 - v1) 1000 (omega arith), lt-leb (i2 - i1) 0 (omega arith))
      (ap (λ (x : Bool). (x && leb (19 * (i2 - i1)) (v2 - v1)) && leb (2 * (v2 - v1)) (53 * (i2 - i1))) (sym (not_leb (500 * (i2 - i1)) (v2 - v1)))
      ∙ pick (leb (500 * (i2 - i1)) (v2 - v1)) (leb (19 * (i2 - i1)) (v2 - v1)) (leb (2 * (v2 - v1)) (53 * (i2 - i1))))
    where
      pick : (x y z : Bool) → ((not x && y) && z) ≡ is_valid (cond x Open (cond (y && z) Valid Invalid))
      pick true y z = refl
      pick false true true = refl
      pick false true false = refl
      pick false false z = refl

-- ---- "to 31,000 class 3; to 45,000 class 4; above, failure"

module _ (c1 c2 : ℕ) where
  pub class_low : c1 ≤ 31000 → true ≡ is_class (class_of_two c1 c2).shown
  unfolding class_of_two is_four
  class_low h = low_class (λ x. true ≡ is_class (reading x (is_four (class_of c2))).shown) c1 h refl refl refl refl

  -- "If C1 reads class 4, C2 must too, else failure"
  pub class_twice : 31000 < c1 → ((leb c1 45000 && ltb 31000 c2) && leb c2 45000) ≡ is_class (class_of_two c1 c2).shown
  unfolding class_of_two is_four
  class_twice h =
      pick (leb c1 45000) (ltb 31000 c2) (leb c2 45000)
      ∙ ap₂ (λ (x : Option ℕ) (y : Bool). is_class (reading x y).shown) (sym (high_class c1 h)) (sym (four_is c2))
    where
      pick : (x y z : Bool) → ((x && y) && z) ≡ is_class (reading (cond x (Some 4) None) (y && z)).shown
      pick true true true = refl
      pick true true false = refl
      pick true false z = refl
      pick false y z = refl
