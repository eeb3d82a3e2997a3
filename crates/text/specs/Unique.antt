-- One possible answer: for each public function of `text`, two answers that obey its promise are equal, with what they leave in the room.
-- The promise stands here in the words of the source up to names, as in `Unique` of the crate `statements`; `tools/public` compares. Of a page
-- stand its two fields, the bytes of the room that it was lent and where the next byte goes.
-- Assumes nothing.
use Rattle.std.specs.Prelude.{ℕ, ◌≡◌, List, [], ◌∷◌, ◌++◌, Option, length, take}
use Rattle.parts.specs.Decimal.{number_in, decimal}
use Rattle.parts.specs.Hex.{bytes_of, room_after, hex_of}
use Rattle.parts.specs.Numbers.{numbers_in}
use Rattle.text.specs.Room.{past, placed}
use Rattle.parts.specs.Words.{words, word_at}

abbrev pub One : (A : Type 0) → (A → Type 0) → Type 0
One A promise = (r s : A) → promise r → promise s → r ≡ s

-- an answer, and the room afterwards
abbrev pub OneWith : (A : Type 0) → (A → List ℕ → Type 0) → Type 0
OneWith A promise = (r s : A) (a b : List ℕ) → promise r a → promise s b → (r ≡ s) × (a ≡ b)

pub record Unique : Type 0 where
  pub parts_front : (bytes : List ℕ) (n : ℕ) → One (List ℕ) (λ r. r ≡ take n bytes)
  pub parts_count : (line : List ℕ) → One ℕ (λ r. r ≡ length (words line))
  pub parts_word : (line : List ℕ) (k : ℕ) → One (List ℕ) (λ r. r ≡ word_at line k)
  pub parts_number_of : (word : List ℕ) → One (Option ℕ) (λ r. r ≡ number_in word)
  pub parts_numbers_of : (line : List ℕ) (many : ℕ) → One (Option (List ℕ)) (λ r. r ≡ numbers_in line many)
  pub parts_bytes_of : (word room : List ℕ) → OneWith (Option ℕ) (λ r room'. (r ≡ bytes_of word room) × (room' ≡ room_after word room))
  pub text_text : (room : List ℕ) (at : ℕ) (bytes : List ℕ) → OneWith ℕ (λ at' room'. (at' ≡ past room at bytes) × (room' ≡ placed room at bytes))
  pub text_number : (room : List ℕ) (at : ℕ) (n : ℕ) → OneWith ℕ (λ at' room'. (at' ≡ past room at (32 ∷ decimal n)) × (room' ≡ placed room at (32 ∷ decimal n)))
  pub text_hex : (room : List ℕ) (at : ℕ) (bytes : List ℕ) → OneWith ℕ (λ at' room'. (at' ≡ past room at (hex_of bytes)) × (room' ≡ placed room at (hex_of bytes)))
  pub text_end : (room : List ℕ) (at : ℕ) → OneWith ℕ (λ at' room'. (at' ≡ past room at (10 ∷ [])) × (room' ≡ placed room at (10 ∷ [])))
  pub text_line : (room : List ℕ) (at : ℕ) (bytes : List ℕ) → OneWith ℕ (λ at' room'. (at' ≡ past room at (bytes ++ (10 ∷ []))) × (room' ≡ placed room at (bytes ++ (10 ∷ []))))
