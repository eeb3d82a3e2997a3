-- What is proved of specs/Walking.
-- Assumes nothing.
use Prim.Native.Nat.{ℕ, ◌+◌, ◌-◌, ◌≤◌, ◌<◌}
use mathlib.Core.Path.{◌≡◌, ◌∙◌, ap}
use mathlib.Core.Bool.{Bool, true, false, cond}
use mathlib.Core.List.{List, ◌∷◌}
use native.Mathlib.Omega.{arith}
use lib.ListN.{length}
use borrow.Author.Tests.{le-ltb, lt-leb, lt-ltb, ne_eqb}
use Rattle.lists.specs.Bits.{one}
use Rattle.header.specs.Header.{type_at, length_at, size_at, is_power}
use Rattle.search.specs.Search.{is_cut, powers, powers_in, search_refusals}
use Rattle.walk.specs.Walk.{step_of, Walk, walk_from}
use Rattle.walk.proofs.Walked.{walk_ended, walk_cut, walk_tlv}
use Rattle.walk.specs.declared.Step.TheVariants.{End, Cut, Tlv}
use Rattle.interface.specs.Statement1C.{first_number}
use Rattle.order_frames.specs.Walking.{counted_number}

-- so many were counted, and this walk is left
unfoldable pub outlook : List ℕ → ℕ → Walk → ℕ
outlook bytes n w = cond (is_cut w) 6 (counted_number (n + length (powers bytes w)))

pub looks : (bytes : List ℕ) → length bytes ≤ 1500 → first_number (search_refusals bytes) ≡ outlook bytes 0 (walk_from bytes 0)
unfolding outlook counted_number
looks bytes h =
    let none : length (powers_in bytes) ≡ 0 + length (powers_in bytes) = omega arith in
    simp (le-ltb _ _ h) (ap (λ (k : ℕ). cond (is_cut (walk_from bytes 0)) 6 (counted_number k)) none)

-- what stands at a boundary that is not the end of the bytes
module _ (bytes : List ℕ) (at : ℕ) (below : at < length bytes) where
  -- "A lone last byte is cut (6)."
  pub lone : length bytes - at < 2 → step_of bytes at ≡ Cut
  unfolding step_of
  lone a = simp (lt-leb _ _ below, lt-ltb _ _ a)

  module _ (two : 2 ≤ length bytes - at) where
    pub type_zero : type_at bytes at ≡ 0 → step_of bytes at ≡ End
    unfolding step_of
    type_zero z = simp (lt-leb _ _ below, le-ltb _ _ two, z)

    module _ (more : type_at bytes at ≡ 0 → ⊥) where
      pub too_long : length bytes - at < 2 + length_at bytes at → step_of bytes at ≡ Cut
      unfolding step_of size_at
      too_long a = simp (lt-leb _ _ below, le-ltb _ _ two, ne_eqb _ _ more, lt-ltb _ _ a)

      pub whole_tlv : 2 + length_at bytes at ≤ length bytes - at → step_of bytes at ≡ Tlv (2 + length_at bytes at)
      unfolding step_of size_at
      whole_tlv a = simp (lt-leb _ _ below, le-ltb _ _ two, ne_eqb _ _ more, le-ltb _ _ a)

module _ (bytes : List ℕ) (at n : ℕ) where
  pub ends : step_of bytes at ≡ End → outlook bytes n (walk_from bytes at) ≡ counted_number n
  unfolding outlook is_cut powers
  ends e = ap (outlook bytes n) (walk_ended bytes at e) ∙ ap counted_number (omega arith)

  pub breaks : step_of bytes at ≡ Cut → outlook bytes n (walk_from bytes at) ≡ 6
  unfolding outlook is_cut
  breaks e = ap (outlook bytes n) (walk_cut bytes at e)

  one_more : (t : Bool) (ps : List ℕ) → n + length (cond t (at ∷ ps) ps) ≡ (n + one t) + length ps
  one_more true ps = omega arith
  one_more false ps = omega arith

  pub goes_on : (size : ℕ) → step_of bytes at ≡ Tlv size → outlook bytes n (walk_from bytes at) ≡ outlook bytes (n + one (is_power bytes at)) (walk_from bytes (at + size))
  unfolding outlook is_cut powers
  goes_on size e =
      ap (outlook bytes n) (walk_tlv bytes at size e)
      ∙ ap (λ (k : ℕ). cond (is_cut (walk_from bytes (at + size))) 6 (counted_number k)) (one_more (is_power bytes at) (powers bytes (walk_from bytes (at + size))))
