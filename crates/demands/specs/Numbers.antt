-- Numbers that bytes are, big-endian: 0 where there are fewer.
-- Assumes nothing.
use Rattle.std.specs.Prelude.{List, ℕ, ◌+◌, ◌*◌, cond, leb, length, take, drop, replicate}
use Rattle.lists.specs.Bytes.{word_at}

-- so many bytes at a place, or as many zeros
unfoldable pub part_at : ℕ → List ℕ → ℕ → List ℕ
part_at n bytes at = cond (leb (at + n) (length bytes)) (take n (drop at bytes)) (replicate n 0)

-- two words, the high one first
unfoldable pub pair_at : List ℕ → ℕ → ℕ
pair_at bytes at = 65536 * word_at bytes at + word_at bytes (at + 2)

-- of two bytes, of four and of eight
unfoldable pub short_at : List ℕ → ℕ → ℕ
short_at bytes at = cond (leb (at + 2) (length bytes)) (word_at bytes at) 0

unfoldable pub long_at : List ℕ → ℕ → ℕ
long_at bytes at = cond (leb (at + 4) (length bytes)) (pair_at bytes at) 0

unfoldable pub number_at : List ℕ → ℕ → ℕ
number_at bytes at = cond (leb (at + 8) (length bytes)) (4294967296 * pair_at bytes at + pair_at bytes (at + 4)) 0
