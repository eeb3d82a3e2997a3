-- One possible answer of `same`, of cells and of bytes, in the words that the first demand's promises have for it. That its promise is this
-- one is `SameIsAlike` of the crate `judge`.
-- Assumes nothing.
use Rattle.std.specs.Prelude.{ℕ, ◌≡◌, Bool, List}
use Rattle.judge.specs.Alike.{alike}
use Rattle.held.specs.Unique.{One}

pub record UniqueAlike : Type 0 where
  pub same : (before cells : List ℕ) → One Bool (λ r. r ≡ alike before cells)
  pub same_bytes : (before room : List ℕ) → One Bool (λ r. r ≡ alike before room)
