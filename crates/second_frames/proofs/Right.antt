-- What is proved of specs/Right.
-- Assumes nothing.
use Prim.Native.Nat.{ℕ, ◌-◌}
use mathlib.Core.Path.{◌≡◌, ◌∙◌, ap₂}
use mathlib.Core.List.{List}
use native.Mathlib.Omega.{arith}
use lib.Dec.{eqb}
use lib.ListN.{length, take, drop, length-drop}
use lib.Seq.{take_all}
use Rattle.std.specs.Cmp.Lexicographic.{pointwise}
use Rattle.judge.specs.Alike.{alike}
use Rattle.judge.proofs.Alike.{same_is_alike}

-- the part of a list from n on, as a slice lends it
to_the_end : (n : ℕ) (l : List ℕ) → take (length l - n) (drop n l) ≡ drop n l
to_the_end n l = take_all (length l - n) (drop n l) (omega (arith, length-drop n l))

pub from_there_on : (n : ℕ) (a b : List ℕ) → pointwise eqb (take (length a - n) (drop n a)) (take (length b - n) (drop n b)) ≡ alike (drop n a) (drop n b)
from_there_on n a b = ap₂ (pointwise eqb) (to_the_end n a) (to_the_end n b) ∙ same_is_alike (drop n a) (drop n b)
