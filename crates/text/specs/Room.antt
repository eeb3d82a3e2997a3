-- Text put into a room from a place on, as far as it fits.
-- Assumes nothing.
use Rattle.std.specs.Prelude.{ℕ, ◌+◌, ◌-◌, List, ◌++◌, length, take, drop}

-- the room afterwards: what stood before the place, the text as far as it fits, and what stands after it
unfoldable pub placed : List ℕ → ℕ → List ℕ → List ℕ
placed room at s = take at room ++ (take (length room - at) s ++ drop (at + length s) room)

-- where the next byte goes
unfoldable pub past : List ℕ → ℕ → List ℕ → ℕ
past room at s = at + length (take (length room - at) s)
