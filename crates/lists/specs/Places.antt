-- A list given by what stands at each place, and an array that a loop fills from the front.
-- Assumes nothing.
use Rattle.std.specs.Prelude.{◌≡◌, List, [], ◌∷◌, ℕ, zero, suc, ◌≤◌, ◌<◌, length, get_or}

module _ {A : Type 0} where
  -- the list of n elements that has f p at each place p
  unfoldable pub tabulate : ℕ → (ℕ → A) → List A
  tabulate zero f = []
  tabulate (suc n) f = f 0 ∷ tabulate n (λ p. f (suc p))

  -- a list `now` that was `old`, after a loop has put f p at each place p below i
  pub record Filled (d : A) (f : ℕ → A) (old : List A) (i : ℕ) (now : List A) : Type 0 where
    pub long : length now ≡ length old
    pub done : (p : ℕ) → p < i → get_or now p d ≡ f p
    pub left : (p : ℕ) → i ≤ p → get_or now p d ≡ get_or old p d
