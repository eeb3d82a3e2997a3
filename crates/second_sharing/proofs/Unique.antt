-- What is proved of specs/Unique.
-- Assumes nothing.
use mathlib.Core.Path.{◌≡◌, sym, ◌∙◌}
use Rattle.second.specs.Unique.{One}
use Rattle.second_sharing.specs.Unique.{Unique}

one : {A : Type 0} (x : A) → One A (λ r. r ≡ x)
one x r s p q = p ∙ sym q

pub unique : Unique
unique = record { second_sharing_second_shares = λ before block figure. one _ }
