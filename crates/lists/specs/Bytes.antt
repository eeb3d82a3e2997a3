-- Numbers that bytes are.
-- Assumes nothing.
use Rattle.std.specs.Prelude.{List, ℕ, ◌+◌, ◌*◌, get_or}

-- "big-endian 16-bit": two bytes, the high one first; past the last byte stands 0
unfoldable pub word_at : List ℕ → ℕ → ℕ
word_at bytes at = 256 * get_or bytes at 0 + get_or bytes (at + 1) 0
