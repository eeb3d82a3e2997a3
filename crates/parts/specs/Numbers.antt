-- The numbers of a line after its command.
-- Assumes nothing.
use Rattle.std.specs.Prelude.{ℕ, ◌+◌, Bool, cond, ◌&&◌, List, Option, Some, None, leb, eqb, ltb, length}
use Rattle.lists.specs.Every.{every}
use Rattle.lists.specs.Places.{tabulate}
use Rattle.parts.specs.Decimal.{is_number, value}
use Rattle.parts.specs.Words.{words, word_at}

-- the word that stands at place p after the command
abbrev pub asked : List ℕ → ℕ → List ℕ
asked l p = word_at l (p + 1)

-- a line has so many numbers if that many words stand after its command and each is a number; there are places for nine
unfoldable pub has_numbers : List ℕ → ℕ → Bool
has_numbers l many = leb many 9 && (eqb (length (words l)) (many + 1) && every many (λ p. is_number (asked l p)))

-- a place that no number has is 0
unfoldable pub numbers_in : List ℕ → ℕ → Option (List ℕ)
numbers_in l many = cond (has_numbers l many) (Some (tabulate 9 (λ p. cond (ltb p many) (value (asked l p)) 0))) None
