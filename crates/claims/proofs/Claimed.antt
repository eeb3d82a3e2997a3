-- What is proved of specs/Claimed.
-- Assumes nothing.
use Prim.Native.Nat.{ℕ, ◌≤◌, ◌<◌}
use mathlib.Core.Path.{◌≡◌}
use mathlib.Core.Bool.{true, false, and-false}
use mathlib.Core.List.{List}
use lib.ListN.{length, get_or, replicate}
use borrow.Author.Tests.{le-leb, lt-leb, eq-eqb, ne_eqb}
use Rattle.sizes.specs.Sizes.{most_ports}
use Rattle.lists.specs.Total.{total}
use Rattle.cells.specs.Cells.{cells_long}
use Rattle.claims.specs.Claimed.{none, wants, claims_on, claimable, wanted_in, claims_in}

module _ (n : ℕ) (lane l : List ℕ) where
  pub no_cells : (length l ≡ cells_long → ⊥) → claimable n lane l ≡ false
  unfolding claimable
  no_cells h = simp (ne_eqb _ _ h)

  pub no_lane : (length lane ≡ most_ports → ⊥) → claimable n lane l ≡ false
  unfolding claimable
  no_lane h = simp (ne_eqb _ _ h, and-false)

  pub too_many : most_ports < n → claimable n lane l ≡ false
  unfolding claimable
  too_many h = simp (lt-leb _ _ h, and-false)

  pub wants_none : claimable n lane l ≡ false → wanted_in n lane l ≡ 0
  unfolding wanted_in
  wants_none e = simp e

  pub claims_none : claimable n lane l ≡ false → claims_in n lane l ≡ replicate most_ports none
  unfolding claims_in
  claims_none e = simp e

module _ (n : ℕ) (lane l : List ℕ) (few : n ≤ most_ports) (long : length l ≡ cells_long) (wide : length lane ≡ most_ports) where
  claims_can : claimable n lane l ≡ true
  unfolding claimable
  claims_can = simp (eq-eqb _ _ long, le-leb n most_ports few, eq-eqb _ _ wide)

  pub wanted_in_lem : wanted_in n lane l ≡ total n (λ p. wants (get_or lane p 0) l p)
  unfolding wanted_in
  wanted_in_lem = simp claims_can

  pub claims_in_lem : claims_in n lane l ≡ claims_on n lane l
  unfolding claims_in
  claims_in_lem = simp claims_can
