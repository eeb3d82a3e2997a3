-- What fields that are not refused are: codes up to 3, and values 0 through 999.
-- Assumes nothing.
use mathlib.Core.Path.{◌≡◌}
use mathlib.Core.Bool.{false}
use Prim.Native.Nat.{◌≤◌}
use lib.Dec.{ltb}
use borrow.Author.Tests.{ltb-false}
use Rattle.lists.proofs.Tests.{fails_left, fails_right}
use Rattle.sizes.specs.Sizes.{most_value}
use Rattle.fields.specs.Fields.{too_high, bad_values}
use Rattle.fields.proofs.Values.{in_range}
use Rattle.writer.specs.Write.{bad_codes}
use Rattle.fields.specs.declared.Form.TheVariants.{Long}
use Rattle.fields.specs.declared.Added.{Added}

module _ (a : Added) where
  pub codes : bad_codes (Long a) ≡ false → (a.kind ≤ 3) × (a.source ≤ 3) × (a.priority ≤ 3)
  unfolding bad_codes
  codes e =
      let rest = fails_right (ltb 3 a.kind) _ e in
      (ltb-false 3 _ (fails_left _ _ e), ltb-false 3 _ (fails_left _ _ rest), ltb-false 3 _ (fails_right (ltb 3 a.source) _ rest))

  pub values : bad_values (Long a) ≡ false → (a.requested ≤ most_value) × (a.allocated ≤ most_value)
  unfolding bad_values
  values e = (in_range _ (fails_left _ _ e), in_range _ (fails_right (too_high a.requested) _ e))
