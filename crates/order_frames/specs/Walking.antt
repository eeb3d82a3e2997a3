-- What the search's first number will be, from the power TLVs that were counted and the walk that is left.
-- Assumes nothing.
use Rattle.std.specs.Prelude.{ℕ, cond, eqb, ltb}

-- "8, 7": of so many power TLVs
unfoldable pub counted_number : ℕ → ℕ
counted_number n = cond (ltb 1 n) 8 (cond (eqb n 0) 7 0)
