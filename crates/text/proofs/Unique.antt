-- What is proved of specs/Unique.
-- Assumes nothing.
use Prim.Native.Nat.{ℕ}
use mathlib.Core.Path.{◌≡◌, sym, ◌∙◌}
use mathlib.Core.List.{List}
use Rattle.std.specs.Prelude.{Option}
use Rattle.text.specs.Unique.{One, OneWith, Unique}

one : (A : Type 0) (x : A) → One A (λ r. r ≡ x)
one A x r s p q = p ∙ sym q

two : (A : Type 0) (x : A) (l : List ℕ) → OneWith A (λ r a. (r ≡ x) × (a ≡ l))
two A x l r s a b p q = (p.0 ∙ sym q.0, p.1 ∙ sym q.1)

pub unique : Unique
unique =
    record {
      parts_front = λ bytes n. one (List ℕ) _;
      parts_count = λ line. one ℕ _;
      parts_word = λ line k. one (List ℕ) _;
      parts_number_of = λ word. one (Option ℕ) _;
      parts_numbers_of = λ line many. one (Option (List ℕ)) _;
      parts_bytes_of = λ word room. two (Option ℕ) _ _;
      text_text = λ room at bytes. two ℕ _ _;
      text_number = λ room at n. two ℕ _ _;
      text_hex = λ room at bytes. two ℕ _ _;
      text_end = λ room at. two ℕ _ _;
      text_line = λ room at bytes. two ℕ _ _;
    }
