-- A call's refusals in order, each a number with its condition: the first whose condition holds is given, and otherwise the value.
-- Assumes nothing.
use Rattle.std.specs.Prelude.{ℕ, ◌≡◌, Bool, false, cond, List, [], ◌∷◌}

-- document 01's table of numbers: "Given exactly when"
abbrev pub ladder : {X : Type 0} → List (ℕ × Bool) → (ℕ → X) → X → X
ladder [] refuse value = value
ladder (r ∷ rs) refuse value = cond r.1 (refuse r.0) (ladder rs refuse value)

-- no condition holds
abbrev pub Clear : List (ℕ × Bool) → Type 0
Clear [] = Unit {0}
Clear (r ∷ rs) = (r.1 ≡ false) × Clear rs

module _ {X : Type 0} (P : X → Type 0) (refuse : ℕ → X) (value : X) where
  -- a property that not every number has: it holds of each refusal of the list
  abbrev pub Each : List (ℕ × Bool) → Type 0
  Each [] = Unit {0}
  Each (r ∷ rs) = P (refuse r.0) × Each rs
