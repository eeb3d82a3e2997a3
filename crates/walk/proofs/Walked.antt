-- The walk by its steps alone, with no count of TLVs: three laws that leave one walk from each boundary.
-- Assumes nothing.
use mathlib.Core.Path.{◌≡◌, refl, ap, ◌∙◌}
use mathlib.Core.Bool.{Bool, true, false, cond}
use mathlib.Core.List.{List}
use Prim.Native.Nat.{ℕ, zero, suc, ◌+◌, ◌-◌, ◌≤◌}
use native.Mathlib.Omega.{arith}
use lib.Dec.{leb, ltb, eqb}
use lib.ListN.{length}
use borrow.Author.Tests.{leb-false, ltb-false, le-leb}
use Rattle.header.specs.Header.{type_at, size_at}
use Rattle.walk.specs.Walk.{step_of, Walk, ended, cut, tlv, onward, walk, walk_from}
use Rattle.walk.specs.declared.Step.{Step}
use Rattle.walk.specs.declared.Step.TheVariants.{End, Cut, Tlv}

-- what a whole TLV at a boundary is
pub record Whole (bytes : List ℕ) (at size : ℕ) : Type 0 where
  pub says : size ≡ size_at bytes at
  pub fits : at + size ≤ length bytes
  pub header : 2 ≤ size

-- only the last of five cases is a whole TLV
last : (a b c d : Bool) (s size : ℕ) → cond a End (cond b Cut (cond c End (cond d Cut (Tlv s)))) ≡ Tlv size → (a ≡ false) × (d ≡ false) × (size ≡ s)
last true b c d s size e = let z : ◌≡◌ {A = ℕ} 0 1 = cc in absurd (omega arith)
last false true c d s size e = let z : ◌≡◌ {A = ℕ} 0 1 = cc in absurd (omega arith)
last false false true d s size e = let z : ◌≡◌ {A = ℕ} 0 1 = cc in absurd (omega arith)
last false false false true s size e = let z : ◌≡◌ {A = ℕ} 0 1 = cc in absurd (omega arith)
last false false false false s size e = (refl, refl, cc)

module _ (bytes : List ℕ) where
  pub whole : (at size : ℕ) → step_of bytes at ≡ Tlv size → Whole bytes at size
  unfolding step_of size_at
  whole at size e =
      let h = last (leb (length bytes) at) (ltb (length bytes - at) 2) (eqb (type_at bytes at) 0) (ltb (length bytes - at) (size_at bytes at)) (size_at bytes at) size e in
      let p = leb-false (length bytes) at h.0 in
      let q = ltb-false (length bytes - at) (size_at bytes at) h.1 in
      let s = h.2 in
      record { says = s; fits = omega arith; header = omega arith }

  -- where the bytes have ended there is no step
  pub past : (at : ℕ) → length bytes ≤ at → step_of bytes at ≡ End
  unfolding step_of
  past at h = simp (le-leb _ _ h)

  -- two walks that agree after a whole TLV agree before it
  same : (s : Step) (at : ℕ) (f g : ℕ → Walk) → ((size : ℕ) → s ≡ Tlv size → f (at + size) ≡ g (at + size)) → onward s at f ≡ onward s at g
  same End at f g h = refl
  same Cut at f g h = refl
  same (Tlv size) at f g h = ap (tlv at) (h size refl)

  -- every count that is large enough gives the same walk
  count : (n m at : ℕ) → length bytes ≤ at + n → length bytes ≤ at + m → walk n bytes at ≡ walk m bytes at
  unfolding walk
  count zero zero at h k = refl
  count zero (suc m) at h k = simp (past at (omega arith))
  count (suc n) zero at h k = simp (past at (omega arith))
  count (suc n) (suc m) at h k =
      same (step_of bytes at) at (walk n bytes) (walk m bytes)
      (λ size e. let w = whole at size e in count n m (at + size) (omega arith) (omega arith))

  -- one step more may always be counted
  from : (at : ℕ) → walk_from bytes at ≡ onward (step_of bytes at) at (walk (length bytes) bytes)
  unfolding walk_from walk
  from at = count (length bytes - at) (suc (length bytes)) at (omega arith) (omega arith)

  pub walk_ended : (at : ℕ) → step_of bytes at ≡ End → walk_from bytes at ≡ ended
  walk_ended at e = from at ∙ simp e

  pub walk_cut : (at : ℕ) → step_of bytes at ≡ Cut → walk_from bytes at ≡ cut
  walk_cut at e = from at ∙ simp e

  pub walk_tlv : (at size : ℕ) → step_of bytes at ≡ Tlv size → walk_from bytes at ≡ tlv at (walk_from bytes (at + size))
  unfolding walk_from
  walk_tlv at size e =
      let w = whole at size e in
      from at ∙ simp e (ap (tlv at) (count (length bytes) (length bytes - (at + size)) (at + size) (omega arith) (omega arith)))
