-- What is proved of specs/Every.
-- Assumes nothing.
use mathlib.Core.Path.{◌≡◌, refl, sym, ◌∙◌, ap, ap₂}
use mathlib.Core.Bool.{Bool, true, false, not, ◌&&◌}
use mathlib.Core.Logic.{⊎_elim}
use Prim.Native.Nat.{ℕ, zero, suc, ◌+◌, ◌<◌}
use native.Mathlib.Nat.{le_refl, le_of_suc-le-suc, not-suc-le-zero, eq-or-lt_of_le}
use native.Mathlib.Numerals.{add-one}
use native.Mathlib.Omega.{arith}
use Rattle.lists.proofs.Tests.{and_left, and_right, not_or}
use Rattle.lists.specs.Every.{every, some_below}

-- one place more, as a loop counts
pub every_next : (n : ℕ) (f : ℕ → Bool) → every (n + 1) f ≡ (every n f && f n)
unfolding every
every_next n f = rw add-one

pub every_at : (n : ℕ) (f : ℕ → Bool) → every n f ≡ true → (p : ℕ) → p < n → f p ≡ true
unfolding every
every_at zero f e p h = absurd (not-suc-le-zero h)
every_at (suc n) f e p h =
    ⊎_elim
    (λ (q : p ≡ n). rw q (and_right (every n f) (f n) e))
    (λ (l : p < n). every_at n f (and_left (every n f) (f n) e) p l)
    (eq-or-lt_of_le (le_of_suc-le-suc h))

-- a test that passes at each place passes at every place
pub every_of : (n : ℕ) (f : ℕ → Bool) → ((p : ℕ) → p < n → f p ≡ true) → every n f ≡ true
unfolding every
every_of zero f h = refl
every_of (suc n) f h = ap₂ ◌&&◌ (every_of n f (λ p l. h p (omega arith))) (h n (le_refl (suc n)))

-- one place that fails is enough
pub every_not : (n : ℕ) (f : ℕ → Bool) (p : ℕ) → p < n → f p ≡ false → every n f ≡ false
every_not n f p h e = go (every n f) refl
  where
    go : (t : Bool) → every n f ≡ t → t ≡ false
    go true q = let z : true ≡ false = sym (every_at n f q p h) ∙ e in z
    go false q = refl

pub every_cong : (n : ℕ) (f g : ℕ → Bool) → ((p : ℕ) → p < n → f p ≡ g p) → every n f ≡ every n g
unfolding every
every_cong zero f g h = refl
every_cong (suc n) f g h = ap₂ ◌&&◌ (every_cong n f g (λ p l. h p (omega arith))) (h n (le_refl (suc n)))

-- it passes nowhere exactly if it fails everywhere
pub nowhere : (n : ℕ) (f : ℕ → Bool) → not (some_below n f) ≡ every n (λ p. not (f p))
unfolding some_below every
nowhere zero f = refl
nowhere (suc n) f = not_or (some_below n f) (f n) ∙ ap (λ b. b && not (f n)) (nowhere n f)
