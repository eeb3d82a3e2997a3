-- What is proved of specs/Unique.
-- Assumes nothing.
use Prim.Native.Nat.{ℕ}
use mathlib.Core.Path.{◌≡◌, sym, ◌∙◌}
use mathlib.Core.List.{List}
use Rattle.interface.specs.Unique.{One2, One3, One5, Unique}

two : (A : Type 0) (n : ℕ) (x : A) → One2 A (λ r a. (r ≡ n) × (a ≡ x))
two A n x r s a b p q = (p.0 ∙ sym q.0, p.1 ∙ sym q.1)

three : (A B : Type 0) (n : ℕ) (x : A) (y : B) → One3 A B (λ r a c. (r ≡ n) × (a ≡ x) × (c ≡ y))
three A B n x y r s a b c d p q = (p.0 ∙ sym q.0, p.1 ∙ sym q.1, p.2 ∙ sym q.2)

five : (A B C D : Type 0) (n : ℕ) (x : A) (y : B) (z : C) (w : D) → One5 A B C D (λ r a c e g. (r ≡ n) × (a ≡ x) × (c ≡ y) × (e ≡ z) × (g ≡ w))
five A B C D n x y z w r s a b c d e f g h p q = (p.0 ∙ sym q.0, p.1 ∙ sym q.1, p.2 ∙ sym q.2, p.3 ∙ sym q.3, p.4 ∙ sym q.4)

pub unique : Unique
unique =
    record {
      ipaqsuni_tables_ipaqsuni_cold_start = λ cells ports. two (List ℕ) _ _;
      ipaqsuni_tables_ipaqsuni_write_control = λ cells port word. two (List ℕ) _ _;
      ipaqsuni_tables_ipaqsuni_read_status = λ cells port status. three (List ℕ) ℕ _ _ _;
      ipaqsuni_tables_ipaqsuni_request = λ cells port value. two (List ℕ) _ _;
      ipaqsuni_tables_ipaqsuni_tick = λ cells samples supply a b closed. five (List ℕ) ℕ ℕ ℕ _ _ _ _ _;
      ipaqsuni_tables_ipaqsuni_save = λ cells image. two (List ℕ) _ _;
      ipaqsuni_tables_ipaqsuni_restore = λ cells image. two (List ℕ) _ _;
      ipaqsuni_frames_ipaqsuni_find_power_tlv = λ pdu offset length. three ℕ ℕ _ _ _;
      ipaqsuni_frames_ipaqsuni_read_power_tlv = λ tlv fields. two (List ℕ) _ _;
      ipaqsuni_frames_ipaqsuni_write_power_tlv = λ fields room written. three (List ℕ) ℕ _ _ _;
    }
