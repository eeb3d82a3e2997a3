-- Request [13] of document 02: the four-pair board's class of three currents, its budgets, its largest requests and its cable loss.
-- Assumes nothing.
use Rattle.std.specs.Prelude.{ℕ, zero, suc, ◌-◌, ◌*◌, min, Bool, false, cond, ◌&&◌, List, [], ◌∷◌, leb, ltb, eqb, get_or, Option, Some, None, Result, Ok, Err}
use Rattle.power.specs.Power.{tenths}
use Rattle.power.specs.declared.Power.{Power}
use Rattle.class.specs.Class.{class_of, is_four, class_of_two}
use Rattle.class.specs.declared.ClassReading.{ClassReading}
use Rattle.class.specs.declared.Failure.{Failure}
use Rattle.class.specs.declared.Failure.TheVariants.{Disagree}

-- "Demands 0 to 600 and classes 0 to 6 are well-made here."
abbrev pub most_class : ℕ
most_class = 6

unfoldable pub is_demand : Power → Bool
is_demand d = leb d.0 600

-- "two 4s then class 0 is class 5, then class 1 is class 6; two 4s then class 4 is class 4; other thirds are failure, as events that
-- disagree"
unfoldable pub third : Option ℕ → Result ℕ Failure
third (Some k) = cond (eqb k 0) (Ok 5) (cond (eqb k 1) (Ok 6) (cond (eqb k 4) (Ok 4) (Err Disagree)))
third None = Err Disagree

-- the events show class 4
abbrev pub shows_four : Result ℕ Failure → Bool
shows_four (Ok k) = eqb k 4
shows_four (Err e) = false

-- "A third class current" is used after two 4s; before that the reading is the one of two currents
unfoldable pub class_of_three : ℕ → ℕ → ℕ → ClassReading
class_of_three c1 c2 c3 =
    cond (is_four (class_of c1) && is_four (class_of c2))
    (record { shown = third (class_of c3); used = 3 })
    (class_of_two c1 c2)

-- "Budgets for 1 to 6: 40, 67, 140, 300, 450, 600; class 0 as class 3"
abbrev pub budgets : List ℕ
budgets = 140 ∷ 40 ∷ 67 ∷ 140 ∷ 300 ∷ 450 ∷ 600 ∷ []

-- the budget of a class; a number that is no class has none
unfoldable pub budget_of : ℕ → Power
budget_of k = tenths (get_or budgets k 0)

-- "a forced port claims 140"
abbrev pub forced_claim : Power
forced_claim = tenths 140

-- "Largest requests, 11 above them: 38, 64, 130, 255, 400, 510"; class 0 as class 3 here too
abbrev pub largest : List ℕ
largest = 130 ∷ 38 ∷ 64 ∷ 130 ∷ 255 ∷ 400 ∷ 510 ∷ []

-- a number that is no class may request nothing
unfoldable pub largest_of : ℕ → ℕ
largest_of k = get_or largest k 0

-- refusal 11: the request is above the largest of the class
unfoldable pub over_class : ℕ → ℕ → Bool
over_class value class = ltb (largest_of class) value

-- "4000p - p²": what of p comes through the cable, each tenth of a watt in 4,000 parts
unfoldable pub through : ℕ → ℕ
through p = 4000 * p - p * p

-- the first of the n numbers from p on that passes a test; 0 if none does
unfoldable pub first_of : (ℕ → Bool) → ℕ → ℕ → ℕ
first_of f zero p = 0
first_of f (suc n) p = cond (f p) p (first_of f n (suc p))

-- "for each request x the smallest p with 4000p - p² at least 4000x". No port is granted over 600, so that p is looked for among 0 to 600;
-- a request over 510 has none there, and 0 stands for it
unfoldable pub loss_of : ℕ → ℕ
loss_of x = first_of (λ p. leb (4000 * x) (through p)) 601 0

-- "Demand is that or the class budget, the smaller."
unfoldable pub demand_for : ℕ → ℕ → Power
demand_for value class = tenths (min (loss_of value) (budget_of class).0)
