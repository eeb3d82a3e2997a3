-- What is proved of specs/Unique.
-- Assumes nothing.
use mathlib.Core.Path.{◌≡◌, sym, ◌∙◌}
use Rattle.second.specs.Unique.{One, Unique}

one : {A : Type 0} (x : A) → One A (λ r. r ≡ x)
one x r s p q = p ∙ sym q

pub unique : Unique
unique = record { second_closed_is_closed = λ cells p. one _; second_second_tick = λ before block figure. one _ }
