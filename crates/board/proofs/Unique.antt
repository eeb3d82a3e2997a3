-- What is proved of specs/Unique.
-- Assumes nothing.
use mathlib.Core.Path.{◌≡◌, sym, ◌∙◌}
use Rattle.board.specs.Unique.{One, Unique}

one : {A : Type 0} (x : A) → One A (λ r. r ≡ x)
one x r s p q = p ∙ sym q

pub unique : Unique
unique =
    record {
      board_sample_size = λ board r s p q. p.0 ∙ sym q.0;
      board_class_shown = λ board c1 c2 c3. one _;
      board_most_class = λ board r s p q. p.0 ∙ sym q.0;
      board_budget = λ board class. one _;
      board_forced_claim = λ board. one _;
      board_cold_word = λ board. one _;
      board_refused = λ board word. one _;
      board_over_class = λ board value class. one _;
      board_demand_for = λ board value class. one _;
      board_closed_number = λ board a b. one _;
    }
