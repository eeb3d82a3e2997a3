-- One possible answer: for each public function of `board` two results that obey its promise are equal. The promise stands here in the words
-- of the source up to names, as in `Unique` of the crate `statements`; `tools/public` compares.
-- Assumes nothing.
use Rattle.std.specs.Prelude.{ℕ, ◌≡◌, ◌≤◌, Bool}
use Rattle.power.specs.declared.Power.{Power}
use Rattle.class.specs.declared.ClassReading.{ClassReading}
use Rattle.board.specs.declared.Board.{Board}
use Rattle.board.specs.Boards.{sample_bytes, class_shown, most_class, budget_of, forced_claim, cold_word, refused, over_class, demand_for, closed_number}

-- two results that obey the promise are equal
abbrev pub One : (A : Type 0) → (A → Type 0) → Type 0
One A promise = (r s : A) → promise r → promise s → r ≡ s

pub record Unique : Type 0 where
  pub board_sample_size : (board : Board) → One ℕ (λ r. (r ≡ sample_bytes board) × (14 ≤ r) × (r ≤ 16))
  pub board_class_shown : (board : Board) (c1 c2 c3 : ℕ) → One ClassReading (λ r. r ≡ class_shown board c1 c2 c3)
  pub board_most_class : (board : Board) → One ℕ (λ r. (r ≡ most_class board) × (r ≤ 6))
  pub board_budget : (board : Board) (class : ℕ) → One Power (λ r. r ≡ budget_of board class)
  pub board_forced_claim : (board : Board) → One Power (λ r. r ≡ forced_claim board)
  pub board_cold_word : (board : Board) → One ℕ (λ r. r ≡ cold_word board)
  pub board_refused : (board : Board) (word : ℕ) → One Bool (λ r. r ≡ refused board word)
  pub board_over_class : (board : Board) (value class : ℕ) → One Bool (λ r. r ≡ over_class board value class)
  pub board_demand_for : (board : Board) (value class : ℕ) → One Power (λ r. r ≡ demand_for board value class)
  pub board_closed_number : (board : Board) (a b : ℕ) → One ℕ (λ r. r ≡ closed_number board a b)
