-- What is proved of specs/Unique.
-- Assumes nothing.
use Prim.Native.Nat.{ℕ}
use mathlib.Core.Path.{◌≡◌, sym, ◌∙◌}
use mathlib.Core.List.{List}
use Rattle.verdict.specs.declared.Verdict.{Verdict}
use Rattle.held.specs.Alike.{UniqueAlike}
use Rattle.held.specs.Unique.{One, OneWith, Unique}

one : {A : Type 0} (x : A) → One A (λ r. r ≡ x)
one x r s p q = p ∙ sym q

with : (x : Verdict) (y : List ℕ) → OneWith (λ r a. (r ≡ x) × (a ≡ y))
with x y r s b c p q = (p.0 ∙ sym q.0, p.1 ∙ sym q.1)

pub unique : Unique
unique =
    record {
      judge_same = λ before after eq. one _;
      judge_answered = λ due. one _;
      judge_refused = λ due number unchanged. one _;
      ill_bad_word = λ word. one _;
      ill_ill_made = λ cells. one _;
      order_start_start_number = λ cells ports. one _;
      order_control_write_control_number = λ cells port word. one _;
      order_status_read_status_number = λ cells port. one _;
      order_power_request_request_number = λ cells port value. one _;
      order_ticking_tick_number = λ cells block figure. one _;
      order_frames_search_number = λ pdu. one _;
      order_frames_read_number = λ bytes. one _;
      order_frames_write_number = λ fields room. one _;
      first_tables_first_start = λ cells before ports. with _ _;
      first_tables_first_control = λ cells before port word. with _ _;
      first_tables_first_status = λ cells before port. with _ _;
      first_tables_first_request = λ cells before port value. with _ _;
      first_tables_first_tick = λ cells before block figure. with _ _;
      first_frames_first_search = λ pdu. one _;
      first_frames_first_read = λ bytes. one _;
      first_frames_first_write = λ fields room before. with _ _;
    }

pub unique_alike : UniqueAlike
unique_alike = record { same = λ before cells. one _; same_bytes = λ before room. one _ }
