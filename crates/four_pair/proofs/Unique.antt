-- What is proved of specs/Unique.
-- Assumes nothing.
use mathlib.Core.Path.{◌≡◌, sym, ◌∙◌}
use Rattle.four_pair.specs.Unique.{One, Unique}

one : {A : Type 0} (x : A) → One A (λ r. r ≡ x)
one x r s p q = p ∙ sym q

pub unique : Unique
unique =
    record {
      four_pair_class_of_three = λ c1 c2 c3. one _;
      four_pair_budget = λ c. one _;
      four_pair_over_class = λ value c. one _;
      four_pair_demand_for = λ value c. one _;
    }
