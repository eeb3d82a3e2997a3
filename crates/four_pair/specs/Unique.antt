-- One possible answer: for each public function of `four_pair` two results that obey its promise are equal. The promise stands here in the
-- words of the source up to names, as in `Unique` of the crate `statements`; `tools/public` compares.
-- Assumes nothing.
use Rattle.std.specs.Prelude.{ℕ, ◌≡◌, Bool}
use Rattle.power.specs.declared.Power.{Power}
use Rattle.class.specs.declared.ClassReading.{ClassReading}
use Rattle.four_pair.specs.FourPair.{class_of_three, budget_of, over_class, demand_for}

-- two results that obey the promise are equal
abbrev pub One : (A : Type 0) → (A → Type 0) → Type 0
One A promise = (r s : A) → promise r → promise s → r ≡ s

pub record Unique : Type 0 where
  pub four_pair_class_of_three : (c1 c2 c3 : ℕ) → One ClassReading (λ r. r ≡ class_of_three c1 c2 c3)
  pub four_pair_budget : (c : ℕ) → One Power (λ r. r ≡ budget_of c)
  pub four_pair_over_class : (value c : ℕ) → One Bool (λ r. r ≡ over_class value c)
  pub four_pair_demand_for : (value c : ℕ) → One Power (λ r. r ≡ demand_for value c)
