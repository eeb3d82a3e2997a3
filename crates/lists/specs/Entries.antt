-- A rule of a table, proved at all of its entries by one test that the checker computes over the whole table.
-- Assumes nothing.
use Rattle.std.specs.Prelude.{Bool, true, false, ◌&&◌, ◌||◌, List, [], ◌∷◌}

module _ {A : Type 0} where
  -- the test f passes at each entry of the table
  unfoldable pub all : (A → Bool) → List A → Bool
  all f [] = true
  all f (x ∷ xs) = f x && all f xs

  -- the test f passes at some entry of the table
  unfoldable pub some : (A → Bool) → List A → Bool
  some f [] = false
  some f (x ∷ xs) = f x || some f xs
