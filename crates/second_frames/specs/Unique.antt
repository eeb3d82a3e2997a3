-- One possible answer: for each public function of this crate two results that obey its promise are equal, with what they leave in the lent
-- room. The promise stands here in the words of the source up to names, as in `Unique` of the crate `statements`; `tools/public` compares.
-- Assumes nothing.
use Rattle.std.specs.Prelude.{ℕ, ◌≡◌, cond, List}
use Rattle.verdict.specs.declared.Verdict.{Verdict}
use Rattle.verdict.specs.declared.Verdict.TheVariants.{Held, NotAsked}
use Rattle.writer.specs.Write.{room_after}
use Rattle.fields.specs.declared.Fields.{Fields}
use Rattle.second_frames.specs.Asks.{asks_write, asks_read}

-- two results that obey the promise are equal
abbrev pub One : (A : Type 0) → (A → Type 0) → Type 0
One A promise = (r s : A) → promise r → promise s → r ≡ s

-- the same of a verdict and what the lent room then holds
abbrev pub OneWith : (Verdict → List ℕ → Type 0) → Type 0
OneWith promise = (r s : Verdict) (b c : List ℕ) → promise r b → promise s c → (r ≡ s) × (b ≡ c)

pub record Unique : Type 0 where
  pub second_frames_second_write : (fields : Fields) (room before : List ℕ) → OneWith (λ r room'. (r ≡ cond (asks_write fields room before) Held NotAsked) × (room' ≡ cond (asks_write fields room before) (room_after fields room) room))
  pub second_frames_second_read : (bytes : List ℕ) → One Verdict (λ r. r ≡ cond (asks_read bytes) Held NotAsked)
