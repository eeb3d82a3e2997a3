-- What a power value is that no TLV is refused for.
-- Assumes nothing.
use mathlib.Core.Path.{◌≡◌}
use mathlib.Core.Bool.{false}
use Prim.Native.Nat.{ℕ, ◌≤◌}
use borrow.Author.Tests.{le-ltb, ltb-false}
use Rattle.sizes.specs.Sizes.{most_value}
use Rattle.fields.specs.Fields.{too_high}

module _ (v : ℕ) where
  pub not_high : v ≤ most_value → too_high v ≡ false
  unfolding too_high
  not_high = le-ltb most_value v

  pub in_range : too_high v ≡ false → v ≤ most_value
  unfolding too_high
  in_range = ltb-false most_value v
