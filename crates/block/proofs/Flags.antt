-- What is proved of specs/Flags.
-- Assumes nothing.
use Prim.Native.Nat.{ℕ, ◌*◌, ◌≤◌}
use mathlib.Core.Path.{◌≡◌}
use mathlib.Core.Bool.{true}
use mathlib.Core.List.{List}
use lib.ListN.{length}
use borrow.Author.Tests.{le-leb, eq-eqb}
use Rattle.sizes.specs.Sizes.{most_ports, sample_bytes}
use Rattle.block.specs.Flags.{flags_fine, flag_lane, flags_fit, flags_clean, flags_laid}

module _ (n : ℕ) (block lane : List ℕ) (few : n ≤ most_ports) (sized : length block ≡ sample_bytes * n) (long : length lane ≡ most_ports) where
  -- ---- where they fit
  fits : flags_fit n block lane ≡ true
  unfolding flags_fit
  fits = simp (le-leb n most_ports few, eq-eqb _ _ sized, eq-eqb _ _ long)

  pub fit_clean : flags_clean n block lane ≡ flags_fine n block
  unfolding flags_clean
  fit_clean = simp fits

  pub fit_laid : flags_laid n block lane ≡ flag_lane n block lane
  unfolding flags_laid
  fit_laid = simp fits
