-- docs/CONSOLE.md: "HEX is pairs of hex digits in either case, `-` for no bytes."
-- Assumes nothing.
use Rattle.std.specs.Prelude.{ℕ, ◌+◌, ◌-◌, ◌*◌, ◌/◌, ◌%◌, Bool, cond, ◌&&◌, ◌||◌, List, [], ◌∷◌, ◌++◌, Option, Some, None, leb, ltb, eqb, length, get_or, drop}
use Rattle.lists.specs.Every.{every}
use Rattle.lists.specs.Places.{tabulate}

-- what a hex digit says: 0 to 9, A to F, a to f; 16 for any other byte
unfoldable pub nibble_of : ℕ → ℕ
nibble_of b =
    cond (leb 48 b && leb b 57) (b - 48)
    (cond (leb 65 b && leb b 70) (b - 55)
    (cond (leb 97 b && leb b 102) (b - 87)
    16))

unfoldable pub is_hex : ℕ → Bool
is_hex b = ltb (nibble_of b) 16

-- what a byte says, if it is a hex digit
unfoldable pub digit_in : ℕ → Option ℕ
digit_in b = cond (is_hex b) (Some (nibble_of b)) None

-- what two hex digits say
abbrev pub pair_of : ℕ → ℕ → ℕ
pair_of high low = 16 * nibble_of high + nibble_of low

-- docs/CONSOLE.md: "Answers are in lower case."; the digit that says a number below 16
unfoldable pub glyph_of : ℕ → ℕ
glyph_of n = cond (ltb n 10) (48 + n) (87 + n)

-- bytes as pairs of hex digits
unfoldable pub hex_of : List ℕ → List ℕ
hex_of [] = []
hex_of (b ∷ bytes) = glyph_of (b / 16) ∷ glyph_of (b % 16) ∷ hex_of bytes

-- the bytes that the pairs of a word are
unfoldable pub bytes_in : List ℕ → List ℕ
bytes_in w = tabulate (length w / 2) (λ k. pair_of (get_or w (2 * k) 0) (get_or w (2 * k + 1) 0))

unfoldable pub is_dash : List ℕ → Bool
is_dash w = eqb (length w) 1 && eqb (get_or w 0 0) 45

unfoldable pub is_pairs : List ℕ → Bool
is_pairs w = ltb 0 (length w) && (eqb (length w % 2) 0 && every (length w) (λ p. is_hex (get_or w p 0)))

-- a word is taken if it is `-` or pairs of hex digits, and the room has as many bytes as there are pairs: `-` has none
unfoldable pub takes : List ℕ → List ℕ → Bool
takes w room = (is_dash w || is_pairs w) && leb (length w / 2) (length room)

unfoldable pub bytes_of : List ℕ → List ℕ → Option ℕ
bytes_of w room = cond (takes w room) (Some (length w / 2)) None

-- the room afterwards: the bytes, and what stood after them; if the word is not taken, as it was
unfoldable pub room_after : List ℕ → List ℕ → List ℕ
room_after w room = cond (takes w room) (bytes_in w ++ drop (length w / 2) room) room
