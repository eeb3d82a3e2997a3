-- A test of words by a mask that has a bit for each word below 64. A reader needs none of this: `refused` is the meaning.
-- Assumes nothing.
use Rattle.std.specs.Prelude.{ℕ, ◌/◌, ◌%◌, ◌^◌, Bool, ◌||◌, leb, eqb}

-- from here on a bit above bit 5 is set
abbrev pub limit : ℕ
limit = 64

unfoldable pub said_by : ℕ → ℕ → Bool
said_by mask word = leb limit word || eqb (mask / 2 ^ (word % 64) % 2) 1
