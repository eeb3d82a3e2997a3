-- The cells of a cold start, one by one.
-- Assumes nothing.
use Rattle.std.specs.Prelude.{ℕ, cond, ◌&&◌, eqb, leb, ltb}

-- the port count, control 0x0004 at each of the 48 places, and else 0
unfoldable pub cold_cell : ℕ → ℕ → ℕ
cold_cell n k = cond (eqb k 0) n (cond (leb 56 k && ltb k 104) 4 0)
