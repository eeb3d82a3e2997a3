-- What is proved of specs/Ladder.
-- Assumes nothing.
use Prim.Native.Nat.{ℕ}
use mathlib.Core.Path.{◌≡◌, refl}
use mathlib.Core.Bool.{Bool, true, false, cond}
use mathlib.Core.List.{List, [], ◌∷◌}
use Rattle.lists.proofs.Tests.{choice}
use Rattle.lists.proofs.Tests.{choice_on}
use Rattle.lists.specs.Ladder.{ladder, Clear, Each}

module _ {X : Type 0} (P : X → Type 0) (refuse : ℕ → X) (value : X) where
  -- what holds of each refusal, and of the value where no condition holds, holds of the answer
  pub ladder_holds : (rs : List (ℕ × Bool)) → ((k : ℕ) → P (refuse k)) → (Clear rs → P value) → P (ladder rs refuse value)
  ladder_holds [] stops goes = goes tt
  ladder_holds (r ∷ rs) stops goes =
      choice_on P r.1 (refuse r.0) (ladder rs refuse value)
      (λ e. stops r.0)
      (λ e. ladder_holds rs stops (λ c. goes (e, c)))

  pub ladder_each : (rs : List (ℕ × Bool)) → (Each P refuse value) rs → P value → P (ladder rs refuse value)
  ladder_each [] each v = v
  ladder_each (r ∷ rs) each v = choice P r.1 (refuse r.0) (ladder rs refuse value) each.0 (ladder_each rs each.1 v)

-- a part of the answer is that part of the refusal, or of the value
pub ladder_part : {X Y : Type 0} (part : X → Y) (refuse : ℕ → X) (value : X) (rs : List (ℕ × Bool))
    → part (ladder rs refuse value) ≡ ladder rs (λ k. part (refuse k)) (part value)
ladder_part part refuse value [] = refl
ladder_part part refuse value (r ∷ rs) = go r.1 (ladder_part part refuse value rs)
  where
    go : (b : Bool) → part (ladder rs refuse value) ≡ ladder rs (λ k. part (refuse k)) (part value)
        → part (cond b (refuse r.0) (ladder rs refuse value)) ≡ cond b (part (refuse r.0)) (ladder rs (λ k. part (refuse k)) (part value))
    go true e = refl
    go false e = e

-- what no refusal is came by no refusal: no condition holds, and it is the value
pub ladder_value : {X : Type 0} (refuse : ℕ → X) (value x : X) → ((k : ℕ) → refuse k ≡ x → ⊥) → (rs : List (ℕ × Bool)) → ladder rs refuse value ≡ x → Clear rs × (value ≡ x)
ladder_value refuse value x never rs = ladder_holds (λ r. r ≡ x → Clear rs × (value ≡ x)) refuse value rs (λ k e. absurd (never k e)) (λ c e. (c, e))
