-- What is proved of specs/Total.
-- Assumes nothing.
use mathlib.Core.Path.{◌≡◌, refl, sym, ap, ap₂}
use Prim.Native.Nat.{ℕ, zero, suc, ◌+◌, ◌*◌, ◌≤◌, ◌<◌, zero-le}
use native.Mathlib.Nat.{le_refl, le_trans, le_antisymm, add-le-add, le-add_right, suc-mul, eq-or-lt_of_le, le_of_suc-le-suc}
use native.Mathlib.Numerals.{add-one}
use native.Mathlib.Omega.{arith}
use mathlib.Core.Logic.{⊎_elim}
use Rattle.lists.specs.Total.{total}

-- one place more, as a loop counts
pub total_next : (n : ℕ) (f : ℕ → ℕ) → total (n + 1) f ≡ total n f + f n
unfolding total
total_next n f = rw add-one

-- only the places below n count
pub total_cong : (n : ℕ) (f g : ℕ → ℕ) → ((p : ℕ) → p < n → f p ≡ g p) → total n f ≡ total n g
unfolding total
total_cong zero f g h = refl
total_cong (suc n) f g h = ap₂ ◌+◌ (total_cong n f g (λ p l. h p (omega arith))) (h n (le_refl (suc n)))

pub total_mono : (n : ℕ) (f g : ℕ → ℕ) → ((p : ℕ) → p < n → f p ≤ g p) → total n f ≤ total n g
unfolding total
total_mono zero f g h = zero-le
total_mono (suc n) f g h = add-le-add (total_mono n f g (λ p l. h p (omega arith))) (h n (le_refl (suc n)))

pub total_zero : (n : ℕ) (f : ℕ → ℕ) → ((p : ℕ) → p < n → f p ≡ 0) → total n f ≡ 0
unfolding total
total_zero zero f h = refl
total_zero (suc n) f h = omega (arith, total_zero n f (λ p l. h p (omega arith)), h n (le_refl (suc n)))

pub total_plus : (n : ℕ) (f g : ℕ → ℕ) → total n (λ p. f p + g p) ≡ total n f + total n g
unfolding total
total_plus zero f g = refl
total_plus (suc n) f g = omega (arith, total_plus n f g)

-- n places of at most b each
pub total_bound : (n b : ℕ) (f : ℕ → ℕ) → ((p : ℕ) → p < n → f p ≤ b) → total n f ≤ n * b
unfolding total
total_bound zero b f h = zero-le
total_bound (suc n) b f h = rw suc-mul (add-le-add (total_bound n b f (λ p l. h p (omega arith))) (h n (le_refl (suc n))))

-- fewer places, a smaller sum
pub total_fewer : (m n : ℕ) (f : ℕ → ℕ) → m ≤ n → total m f ≤ total n f
unfolding total
total_fewer m zero f h = rw (le_antisymm h zero-le) (le_refl (total 0 f))
total_fewer m (suc n) f h =
    ⊎_elim
    (λ (e : m ≡ suc n). rw e (le_refl (total (suc n) f)))
    (λ (l : m < suc n). le_trans (total_fewer m n f (le_of_suc-le-suc l)) (le-add_right (total n f) (f n)))
    (eq-or-lt_of_le h)

-- places that count nothing may be left out
pub total_less : (m n : ℕ) (f : ℕ → ℕ) → m ≤ n → ((p : ℕ) → m ≤ p → f p ≡ 0) → total n f ≡ total m f
unfolding total
total_less m zero f h z = ap (λ (k : ℕ). total k f) (sym (le_antisymm h zero-le))
total_less m (suc n) f h z =
    ⊎_elim
    (λ (e : m ≡ suc n). ap (λ (k : ℕ). total k f) (sym e))
    (λ (l : m < suc n). omega (arith, total_less m n f (le_of_suc-le-suc l) z, z n (le_of_suc-le-suc l)))
    (eq-or-lt_of_le h)
