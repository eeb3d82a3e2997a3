-- The four fixed bytes, one by one.
-- Assumes nothing.
use mathlib.Core.Path.{◌≡◌}
use mathlib.Core.Bool.{true, ◌&&◌, and-true}
use mathlib.Core.List.{List}
use Prim.Native.Nat.{ℕ, ◌+◌}
use native.Mathlib.Nat.{add_assoc}
use lib.Dec.{eqb}
use lib.ListN.{get_or}
use borrow.Author.Tests.{eqb-true}
use Rattle.lists.proofs.Tests.{and_left, and_right}
use Rattle.header.specs.Header.{stands_at, fixed_at}

module _ (b : List ℕ) (at : ℕ) where
  pub spelt : fixed_at b at ≡ (eqb (get_or b at 0) 0 && (eqb (get_or b (at + 1) 0) 0x12 && (eqb (get_or b (at + 2) 0) 0x0f && eqb (get_or b (at + 3) 0) 2)))
  unfolding fixed_at stands_at
  spelt = simp (add_assoc, and-true)

  pub four : fixed_at b at ≡ true → (get_or b at 0 ≡ 0) × (get_or b (at + 1) 0 ≡ 0x12) × (get_or b (at + 2) 0 ≡ 0x0f) × (get_or b (at + 3) 0 ≡ 2)
  four e =
      let all = rw spelt at e in
      let three = and_right (eqb (get_or b at 0) 0) _ all in
      let two = and_right (eqb (get_or b (at + 1) 0) 0x12) _ three in (
        eqb-true _ 0 (and_left _ _ all),
        eqb-true _ 0x12 (and_left _ _ three),
        eqb-true _ 0x0f (and_left _ _ two),
        eqb-true _ 2 (and_right (eqb (get_or b (at + 2) 0) 0x0f) _ two),
      )
