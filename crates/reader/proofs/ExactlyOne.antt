-- How many bytes the one power TLV of the reader has.
-- Assumes nothing.
use mathlib.Core.Path.{◌≡◌}
use mathlib.Core.Bool.{true}
use mathlib.Core.List.{List}
use mathlib.Core.Logic.{◌⊎◌, inl, inr, ⊎_elim}
use Prim.Native.Nat.{ℕ, ◌+◌, ◌<◌}
use native.Mathlib.Omega.{arith}
use lib.Dec.{eqb}
use lib.ListN.{length}
use borrow.Author.Tests.{eqb-true}
use Rattle.lists.proofs.Tests.{and_left, and_right, or_either}
use Rattle.header.specs.Header.{length_at, size_at, is_power}
use Rattle.reader.specs.Read.{exactly_one}

module _ (b : List ℕ) (one : exactly_one b ≡ true) where
  -- nothing is left over
  pub whole : length b ≡ 2 + length_at b 0
  unfolding exactly_one size_at
  whole = eqb-true (length b) (2 + length_at b 0) (and_left _ _ one)

  pub power : is_power b 0 ≡ true
  unfolding exactly_one size_at
  power = and_left _ _ (and_right (eqb (length b) (2 + length_at b 0)) _ one)

  pub lengths : (length_at b 0 ≡ 7) ⊎ (length_at b 0 ≡ 12)
  unfolding exactly_one size_at
  lengths =
      ⊎_elim (λ e. inl (eqb-true _ 7 e)) (λ e. inr (eqb-true _ 12 e))
      (or_either _ _ (and_right (is_power b 0) _ (and_right (eqb (length b) (2 + length_at b 0)) _ one)))

  -- both forms have the three octets
  pub three : 8 < length b
  three = ⊎_elim (λ e. omega (arith, whole)) (λ e. omega (arith, whole)) lengths

  -- the form that is not the short one has fourteen bytes
  pub fourteen : (length_at b 0 ≡ 7 → ⊥) → 13 < length b
  fourteen h = ⊎_elim (λ e. absurd (h e)) (λ e. omega (arith, whole)) lengths
