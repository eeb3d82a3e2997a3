-- docs/CONSOLE.md: "Words are parted by one space."
-- Assumes nothing.
use Rattle.std.specs.Prelude.{ℕ, cond, List, [], ◌∷◌, eqb, get_or}

-- a byte in front of the first word
unfoldable pub before : ℕ → List (List ℕ) → List (List ℕ)
before b [] = (b ∷ []) ∷ []
before b (w ∷ ws) = (b ∷ w) ∷ ws

-- the words of a line: a space ends one and begins the next, any other byte belongs to its word
unfoldable pub words : List ℕ → List (List ℕ)
words [] = [] ∷ []
words (b ∷ l) = cond (eqb b 32) ([] ∷ words l) (before b (words l))

-- the word that stands after k others; past the last word nothing stands
unfoldable pub word_at : List ℕ → ℕ → List ℕ
word_at l k = get_or (words l) k []
