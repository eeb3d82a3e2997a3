-- What was lent, compared with what it held before the call.
-- Assumes nothing.
use Rattle.std.specs.Prelude.{ℕ, ◌≡◌, Bool, ◌&&◌, List, eqb, length, get_or}
use Rattle.std.specs.Cmp.Lexicographic.{pointwise}
use Rattle.lists.specs.Every.{every}

-- as many, and at each place the same number
unfoldable pub alike : List ℕ → List ℕ → Bool
alike a b = eqb (length a) (length b) && every (length a) (λ k. eqb (get_or a k 0) (get_or b k 0))

-- what `same` says of cells and of bytes, which are numbers: that they are alike
abbrev pub SameIsAlike : Type 0
SameIsAlike = (before after : List ℕ) → pointwise eqb before after ≡ alike before after
