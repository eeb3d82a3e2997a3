-- What follows from the definitions of the four-pair board, for whoever stands above them.
-- Assumes nothing.
use Prim.Native.Nat.{ℕ, ◌≤◌}
use mathlib.Core.Path.{◌≡◌, refl, sym, ◌∙◌, ap}
use mathlib.Core.Bool.{Bool, true, false, cond, ◌&&◌}
use native.Mathlib.Omega.{arith}
use native.Mathlib.Nat.{le_trans, min-le_right}
use lib.Dec.{leb, eqb}
use lib.ListN.{get_or}
use borrow.Author.Tests.{leb-true, le-leb}
use Rattle.std.proofs.Common.{Option, Some, None, Result, Ok, Err}
use Rattle.lists.specs.Entries.{all}
use Rattle.lists.proofs.Entries.{entry_or}
use Rattle.lists.proofs.Tests.{choice}
use Rattle.class.specs.Class.{class_of, is_four, alone, class_of_two}
use Rattle.class.proofs.Laws.{at_most_four, class_of_two_at_most_four}
use Rattle.class.specs.declared.ClassReading.{ClassReading}
use Rattle.class.specs.declared.Failure.{Failure}
use Rattle.class.specs.declared.Failure.TheVariants.{Disagree}
use Rattle.four_pair.specs.FourPair.{third, shows_four, class_of_three, budgets, budget_of, loss_of, demand_for, is_demand, most_class}

-- two currents show class 4 exactly if both are 4s: a first that is none shows another class, and a second that is none disagrees
four_shown : (b t : Bool) (k : ℕ) → eqb k 4 ≡ b → shows_four (cond b (cond t (Ok 4) (Err Disagree)) (Ok k)) ≡ (b && t)
four_shown true true k e = refl
four_shown true false k e = refl
four_shown false t k e = e

two_shown : (c : Option ℕ) (t : Bool) → shows_four (cond (is_four c) (cond t (Ok 4) (Err Disagree)) (alone c)) ≡ (is_four c && t)
unfolding is_four
two_shown (Some k) t = four_shown (eqb k 4) t k refl
two_shown None t = refl

shown_of : (t : Bool) (a b : ClassReading) → (cond t a b).shown ≡ cond t a.shown b.shown
shown_of true a b = refl
shown_of false a b = refl

pub two_fours : (c1 c2 : ℕ) → shows_four (class_of_two c1 c2).shown ≡ (is_four (class_of c1) && is_four (class_of c2))
unfolding class_of_two
two_fours c1 c2 = ap shows_four (shown_of (is_four (class_of c1)) _ _) ∙ two_shown (class_of c1) (is_four (class_of c2))

-- so the third current is asked exactly where the reading of the first two is class 4
pub three_by_two : (c1 c2 c3 : ℕ) → class_of_three c1 c2 c3 ≡ cond (shows_four (class_of_two c1 c2).shown) (record { shown = third (class_of c3); used = 3 }) (class_of_two c1 c2)
unfolding class_of_three
three_by_two c1 c2 c3 = simp two_fours

-- the rule of the budgets' table, computed once over it
pub budget_at_most : (class : ℕ) → (budget_of class).0 ≤ 600
unfolding budget_of all
budget_at_most class = leb-true (get_or budgets class 0) 600 (entry_or (λ x. leb x 600) 0 budgets refl refl class)

-- and so of each demand, since it is the smaller
pub demand_for_at_most : (value class : ℕ) → (demand_for value class).0 ≤ 600
unfolding demand_for
demand_for_at_most value class = le_trans (min-le_right (loss_of value) (budget_of class).0) (budget_at_most class)

-- "Demands 0 to 600 .. are well-made here"
pub budget_is_demand : (class : ℕ) → is_demand (budget_of class) ≡ true
unfolding is_demand
budget_is_demand class = le-leb (budget_of class).0 600 (budget_at_most class)

pub demand_for_is_demand : (value class : ℕ) → is_demand (demand_for value class) ≡ true
unfolding is_demand
demand_for_is_demand value class = le-leb (demand_for value class).0 600 (demand_for_at_most value class)

-- a class is at most so much, if there is one
abbrev pub at_most_class : ℕ → Result ℕ Failure → Bool
at_most_class most (Ok k) = leb k most
at_most_class most (Err e) = true

pub four_is_four : (e : Result ℕ Failure) → at_most_four e ≡ true → at_most_class 4 e ≡ true
four_is_four (Ok k) h = h
four_is_four (Err e) h = h

-- a class is at most 6, if there is one
four_is_six : (e : Result ℕ Failure) → at_most_four e ≡ true → at_most_class most_class e ≡ true
four_is_six (Ok k) h = le-leb k 6 (omega (arith, leb-true k 4 h))
four_is_six (Err e) h = refl

abbrev SixOrLess : Result ℕ Failure → Type 0
SixOrLess e = at_most_class most_class e ≡ true

third_at_most_six : (class : Option ℕ) → at_most_class most_class (third class) ≡ true
unfolding third
third_at_most_six (Some k) =
    choice SixOrLess (eqb k 0) _ _ refl
    (choice SixOrLess (eqb k 1) _ _ refl
    (choice SixOrLess (eqb k 4) _ _ refl
    refl))
third_at_most_six None = refl

pub class_of_three_at_most_six : (c1 c2 c3 : ℕ) → at_most_class most_class (class_of_three c1 c2 c3).shown ≡ true
unfolding class_of_three
class_of_three_at_most_six c1 c2 c3 =
    choice (λ (r : ClassReading). at_most_class most_class r.shown ≡ true) (is_four (class_of c1) && is_four (class_of c2)) _ _
    (third_at_most_six (class_of c3))
    (four_is_six (class_of_two c1 c2).shown (class_of_two_at_most_four c1 c2))

-- "classes 0 to 6 are well-made here"
pub three_class : (c1 c2 c3 k : ℕ) → (class_of_three c1 c2 c3).shown ≡ Ok k → k ≤ most_class
three_class c1 c2 c3 k e = leb-true k most_class (sym (ap (at_most_class most_class) e) ∙ class_of_three_at_most_six c1 c2 c3)
