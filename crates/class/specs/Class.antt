-- Document 01, "Samples": the class, the two currents and the budgets.
use Rattle.std.specs.Prelude.{ℕ, Bool, false, cond, ◌||◌, List, [], ◌∷◌, leb, ltb, eqb, get_or, Option, Some, None, Result, Ok, Err}
use Rattle.lists.specs.Entries.{some}
use Rattle.power.specs.Power.{tenths, over}
use Rattle.power.specs.declared.Power.{Power}
use Rattle.class.specs.declared.ClassReading.{ClassReading}
use Rattle.class.specs.declared.Failure.{Failure}
use Rattle.class.specs.declared.Failure.TheVariants.{OverCurrent, Disagree}

-- "from one current: up to 5,000 class 0; to 13,000 class 1; to 21,000 class 2; to 31,000 class 3; to 45,000 class 4; above, failure."
unfoldable pub class_of : ℕ → Option ℕ
class_of i =
    cond (leb i 5000) (Some 0)
    (cond (leb i 13000) (Some 1)
    (cond (leb i 21000) (Some 2)
    (cond (leb i 31000) (Some 3)
    (cond (leb i 45000) (Some 4)
    None))))

unfoldable pub is_four : Option ℕ → Bool
is_four (Some k) = eqb k 4
is_four None = false

-- what a first current shows by itself: "a current above 45,000" (request [7]) is one failure of the two
abbrev pub alone : Option ℕ → Result ℕ Failure
alone (Some k) = Ok k
alone None = Err OverCurrent

-- "If C1 reads class 4, C2 must too, else failure .. With any other class C2 isn't looked at."; request [7]: "The class reading must say
-- which, and how many of the two currents it used; a second current above 45,000 after a class 4 counts as disagreeing."
unfoldable pub class_of_two : ℕ → ℕ → ClassReading
class_of_two c1 c2 =
    cond (is_four (class_of c1))
    (record { shown = cond (is_four (class_of c2)) (Ok 4) (Err Disagree); used = 2 })
    (record { shown = alone (class_of c1); used = 1 })

-- "Budgets for classes 0 to 4: 154, 40, 70, 154, 300"
abbrev pub budgets : List ℕ
budgets = 154 ∷ 40 ∷ 70 ∷ 154 ∷ 300 ∷ []

-- the budget of a class; a number that is no class has none
unfoldable pub budget_of : ℕ → Power
budget_of k = tenths (get_or budgets k 0)

-- "value 1..38 means demand 40, ..64 means 70, ..129 means 154, ..255 means 300": the budgets of classes 1 to 4
unfoldable pub level_of : ℕ → Power
level_of v = budget_of (cond (leb v 38) 1 (cond (leb v 64) 2 (cond (leb v 129) 3 4)))

-- "Over the class budget: 11.", and request [4]: "11 for 256 to 999"
unfoldable pub over_class : ℕ → ℕ → Bool
over_class v class = ltb 255 v || over (level_of v) (budget_of class)

-- what is not "a demand not 0, 40, 70, 154 or 300" (refusal 13)
unfoldable pub is_demand : Power → Bool
is_demand d = some (eqb d.0) (0 ∷ 40 ∷ 70 ∷ 154 ∷ 300 ∷ [])
