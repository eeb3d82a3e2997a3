-- What follows from the definitions of the class and the budgets, for whoever stands above them.
-- Assumes nothing.
use Prim.Native.Nat.{ℕ}
use mathlib.Core.Path.{◌≡◌, refl}
use mathlib.Core.Bool.{Bool, true}
use lib.Dec.{leb}
use Rattle.std.proofs.Common.{Option, Result, Ok, Err}
use Rattle.lists.specs.Entries.{all, some}
use Rattle.lists.proofs.Entries.{entry_or}
use Rattle.lists.proofs.Tests.{choice}
use Rattle.power.specs.Power.{tenths}
use Rattle.class.specs.Class.{class_of, is_four, alone, class_of_two, budgets, budget_of, is_demand}
use Rattle.class.specs.declared.ClassReading.{ClassReading}
use Rattle.class.specs.declared.Failure.{Failure}

-- the rule of the budgets' table: each is a demand that a well-made port may have, and so is what a number that is no class has.
-- The test is computed once over the table
pub budget_is_demand : (class : ℕ) → is_demand (budget_of class) ≡ true
unfolding is_demand budget_of all some
budget_is_demand class = entry_or (λ x. is_demand (tenths x)) 0 budgets refl refl class

-- a class is at most 4, if there is one
abbrev pub at_most_four : Result ℕ Failure → Bool
at_most_four (Ok k) = leb k 4
at_most_four (Err e) = true

abbrev FourOrLess : Option ℕ → Type 0
FourOrLess c = at_most_four (alone c) ≡ true

alone_at_most_four : (current : ℕ) → at_most_four (alone (class_of current)) ≡ true
unfolding class_of
alone_at_most_four i =
    choice FourOrLess (leb i 5000) _ _ refl
    (choice FourOrLess (leb i 13000) _ _ refl
    (choice FourOrLess (leb i 21000) _ _ refl
    (choice FourOrLess (leb i 31000) _ _ refl
    (choice FourOrLess (leb i 45000) _ _ refl
    refl))))

pub class_of_two_at_most_four : (c1 c2 : ℕ) → at_most_four (class_of_two c1 c2).shown ≡ true
unfolding class_of_two
class_of_two_at_most_four c1 c2 =
    choice (λ (r : ClassReading). at_most_four r.shown ≡ true) (is_four (class_of c1)) _ _
    (choice (λ (e : Result ℕ Failure). at_most_four e ≡ true) (is_four (class_of c2)) _ _ refl refl)
    (alone_at_most_four c1)
