-- What is proved of specs/Shared.
-- Assumes nothing.
use Prim.Native.Nat.{ℕ, ◌+◌, min}
use mathlib.Core.Path.{◌≡◌}
use mathlib.Core.Bool.{cond}
use mathlib.Core.List.{List}
use native.Mathlib.Numerals.{add-one}
use native.Mathlib.Omega.{arith}
use lib.ListN.{get_or}
use Rattle.std.specs.Ordering.{ord_min, nat_cmp}
use Rattle.std.proofs.lemmas.Bool.Decides.{nat_tests}
use Rattle.second.specs.Answers.{closed_cell}
use Rattle.second_sharing.specs.Shared.{denied_cell, place_cell, first_shed}

-- one place more, as a loop counts
pub first_next : (l m : List ℕ) (n : ℕ) → first_shed l m (n + 1) ≡ min (first_shed l m n) (cond (denied_cell m n) (place_cell l n) 384)
unfolding first_shed
first_next l m n = rw add-one

-- what a port draws, if it is closed
abbrev pub drawn_at : List ℕ → ℕ → ℕ
drawn_at l p = cond (closed_cell l p) (get_or l (104 + p) 0) 0

-- what `min` of the library answers at numbers
pub lesser : (a b : ℕ) → ord_min nat_cmp a b ≡ min a b
lesser a b = grind (arith, nat_tests)
