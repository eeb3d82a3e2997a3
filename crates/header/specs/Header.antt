-- Document 01, "The power TLV": the header, and what makes a TLV a power TLV.
use Rattle.std.specs.Prelude.{ℕ, ◌+◌, Bool, true, ◌&&◌, List, [], ◌∷◌, eqb, leb, get_or}
use Rattle.lists.specs.Bytes.{word_at}
use Rattle.lists.specs.Bits.{field}

-- "Type 127 (7 bits)"
unfoldable pub type_at : List ℕ → ℕ → ℕ
type_at bytes at = field 9 7 (word_at bytes at)

-- "length (9 bits)"
unfoldable pub length_at : List ℕ → ℕ → ℕ
length_at bytes at = field 0 9 (word_at bytes at)

-- the whole TLV: two bytes of header, and as many more as its length says
unfoldable pub size_at : List ℕ → ℕ → ℕ
size_at bytes at = 2 + length_at bytes at

-- "OUI 00-12-0F, subtype 2"
abbrev pub fixed : List ℕ
fixed = 0x00 ∷ 0x12 ∷ 0x0f ∷ 0x02 ∷ []

-- the bytes from a place on begin with the given ones
unfoldable pub stands_at : List ℕ → List ℕ → ℕ → Bool
stands_at [] bytes at = true
stands_at (x ∷ xs) bytes at = eqb (get_or bytes at 0) x && stands_at xs bytes (at + 1)

unfoldable pub fixed_at : List ℕ → ℕ → Bool
fixed_at bytes at = stands_at fixed bytes at

-- "A TLV of type 127, length 4 or more, with that OUI and subtype is a power TLV."
unfoldable pub is_power : List ℕ → ℕ → Bool
is_power bytes at = eqb (type_at bytes at) 127 && (leb 4 (length_at bytes at) && fixed_at bytes (at + 2))
