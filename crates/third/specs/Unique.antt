-- One possible answer: for each public function of the third demand's crates (`marks`, `history`, `third_tests`, `third`) two results that
-- obey its promise are equal. The promise stands here in the words of the source up to names, as in `Unique` of the crate `statements`; `tools/public` compares.
-- Assumes nothing.
use Rattle.std.specs.Prelude.{ℕ, ◌<◌, ◌≡◌, Bool, cond, List}
use Rattle.lists.specs.Bytes.{word_at}
use Rattle.passes.specs.OnCells.{tick_on}
use Rattle.verdict.specs.declared.Verdict.{Verdict}
use Rattle.verdict.specs.declared.Verdict.TheVariants.{Held, NotAsked}
use Rattle.statements.specs.History.{ticked}
use Rattle.marks.specs.Mark.{noted_mark}
use Rattle.history.specs.Decode.{calls_of}
use Rattle.history.specs.Lent.{answer_of, cells_after, ran_on, cells_reached}
use Rattle.history.specs.Marks.{noted_all, marks_reached}
use Rattle.history.specs.declared.Reached.{Reached}
use Rattle.history.specs.declared.TickAnswer.{TickAnswer}
use Rattle.history.specs.declared.Tried.{Tried}
use Rattle.third_tests.specs.Answers.{none_lost_in, sound_in}
use Rattle.third_tests.specs.Asks.{asks}

-- two results that obey the promise are equal
abbrev pub One : (A : Type 0) → (A → Type 0) → Type 0
One A promise = (r s : A) → promise r → promise s → r ≡ s

pub record Unique : Type 0 where
  pub marks_bytes_word_at : (bytes : List ℕ) (at : ℕ) → One ℕ (λ r. (r ≡ word_at bytes at) × (r < 65536))
  pub marks_noted : (state : ℕ) (ticked : Bool) (block : List ℕ) (p mark : ℕ) → One ℕ (λ r. r ≡ noted_mark state ticked block p mark)
  pub history_run : (history : List ℕ) (ports : ℕ) → One Reached (λ r. (r.cells ≡ cells_reached ports (calls_of history)) × (r.shown ≡ marks_reached ports (calls_of history)))
  pub history_tick_from : (from : Reached) (block : List ℕ) (figure : ℕ) → One Tried (λ r. (r.cells ≡ cells_after from.cells (ticked block figure)) × (r.shown ≡ noted_all r.cells (ran_on from.cells (ticked block figure)) block from.shown) × (r.answer ≡ answer_of (tick_on from.cells block figure).answer))
  pub third_tests_answers_none_lost : (first second : TickAnswer) → One Bool (λ r. r ≡ none_lost_in first second)
  pub third_tests_answers_sound : (tried : Tried) (figure : ℕ) → One Bool (λ r. r ≡ sound_in tried.cells tried.shown tried.answer figure)
  pub third_tests_asked_asked : (ports : ℕ) (block : List ℕ) (less more : ℕ) → One Bool (λ r. r ≡ asks ports block less more)
  pub third_third_demand : (history : List ℕ) (ports : ℕ) (block : List ℕ) (less more : ℕ) → One Verdict (λ r. r ≡ cond (asks ports block less more) Held NotAsked)
