-- What is proved of specs/Entries.
-- Assumes nothing.
use mathlib.Core.Path.{◌≡◌}
use mathlib.Core.Bool.{Bool, true}
use mathlib.Core.List.{List, [], ◌∷◌}
use Prim.Native.Nat.{ℕ, zero, suc, ◌<◌}
use native.Mathlib.Nat.{le_of_suc-le-suc, not-suc-le-zero}
use lib.ListN.{length, get_or}
use Rattle.lists.proofs.Tests.{and_left, and_right}
use Rattle.lists.specs.Entries.{all}

-- what the test shows of the whole table holds of each entry
pub entry : {A : Type 0} (f : A → Bool) (d : A) (xs : List A) → all f xs ≡ true → (k : ℕ) → k < length xs → f (get_or xs k d) ≡ true
unfolding all
entry f d [] e k h = absurd (not-suc-le-zero h)
entry f d (x ∷ xs) e zero h = and_left (f x) (all f xs) e
entry f d (x ∷ xs) e (suc k) h = entry f d xs (and_right (f x) (all f xs) e) k (le_of_suc-le-suc h)

-- and past the table, if the test passes at the value that stands for what is not there
pub entry_or : {A : Type 0} (f : A → Bool) (d : A) (xs : List A) → f d ≡ true → all f xs ≡ true → (k : ℕ) → f (get_or xs k d) ≡ true
unfolding all
entry_or f d [] p e k = p
entry_or f d (x ∷ xs) p e zero = and_left (f x) (all f xs) e
entry_or f d (x ∷ xs) p e (suc k) = entry_or f d xs p (and_right (f x) (all f xs) e) k
