-- What is proved of specs/Count.
-- Assumes nothing.
use mathlib.Core.Path.{◌≡◌, refl, sym, ◌∙◌, ap, ap₂}
use mathlib.Core.Bool.{Bool, true, false, ◌||◌, ◌&&◌, false≢true}
use mathlib.Core.Logic.{⊎_elim}
use Prim.Native.Nat.{ℕ, zero, suc, ◌+◌, ◌-◌, ◌*◌, ◌/◌, ◌%◌, ◌^◌, ◌≤◌, ◌<◌}
use native.Mathlib.Nat.{add_comm, add-zero, add-suc, add_assoc, add-mul, mul_comm, mul_assoc, le_of_suc-le-suc, eq-or-lt_of_le, not-suc-le-zero, sub-add_cancel, add-mul-mod_self_right, div-eq_of_lt, lt_of_lt_of_le, zero-mul}
use native.Mathlib.Omega.{arith}
use lib.Dec.{eqb}
use lib.Pow.{pow-add, pow_mono, high, field}
use lib.Count.{ones, ones_cat}
use Rattle.lists.specs.Bits.{bit, one, place}
use Rattle.lists.specs.Total.{total}
use Rattle.lists.proofs.Total.{total_cong, total_plus}
use Rattle.lists.specs.Count.{count, mask}

place_below : (n : ℕ) (b : Bool) → place n b ≤ 2 ^ n
place_below n true = omega arith
place_below n false = omega arith

pub mask_below : (n : ℕ) (f : ℕ → Bool) → mask n f < 2 ^ n
unfolding mask total
mask_below zero f = omega arith
mask_below (suc n) f = omega (arith, mask_below n f, place_below n (f n))

-- the ones of a mask are the places that pass
ones_one : (b : Bool) → ones (one b) ≡ one b
unfolding ones
ones_one true = refl
ones_one false = refl

pub ones_mask : (n : ℕ) (f : ℕ → Bool) → ones (mask n f) ≡ count n f
unfolding mask count total ones
ones_mask zero f = refl
ones_mask (suc n) f =
    ap ones (add_comm (mask n f) (place n (f n)))
    ∙ ones_cat n (one (f n)) (mask n f) (mask_below n f)
    ∙ add_comm (ones (one (f n))) (ones (mask n f))
    ∙ ap₂ ◌+◌ (ones_mask n f) (ones_one (f n))

-- what stands above place p does not reach bit p
bit_lower : (p n a r : ℕ) → p < n → bit p (a * 2 ^ n + r) ≡ bit p r
unfolding bit
bit_lower p n a r h =
    let e : (a * 2 ^ n + r) % 2 ^ (1 + p) ≡ r % 2 ^ (1 + p) =
    ap (λ (k : ℕ). (a * 2 ^ k + r) % 2 ^ (1 + p)) (sym (sub-add_cancel {n = n} {m = 1 + p} (omega arith)))
    ∙ ap (λ (x : ℕ). (a * x + r) % 2 ^ (1 + p)) (pow-add 2 (n - (1 + p)) (1 + p))
    ∙ ap (λ (x : ℕ). (x + r) % 2 ^ (1 + p)) (sym (mul_assoc a (2 ^ (n - (1 + p))) (2 ^ (1 + p))))
    ∙ ap (λ (x : ℕ). x % 2 ^ (1 + p)) (add_comm (a * 2 ^ (n - (1 + p)) * 2 ^ (1 + p)) r)
    ∙ add-mul-mod_self_right r (a * 2 ^ (n - (1 + p))) (2 ^ (1 + p)) in
    ap (λ (x : ℕ). eqb x 1) (sym (field (a * 2 ^ n + r) 1 p) ∙ ap (λ (x : ℕ). x / 2 ^ p) e ∙ field r 1 p)

bit_here : (n : ℕ) (b : Bool) (r : ℕ) → r < 2 ^ n → bit n (one b * 2 ^ n + r) ≡ b
unfolding bit
bit_here n true r h = ap (λ (x : ℕ). eqb (x % 2) 1) (high 1 n h)
bit_here n false r h = ap (λ (x : ℕ). eqb (x % 2) 1) (high 0 n h)

-- bit p is set exactly if place p passes
pub bit_mask : (n : ℕ) (f : ℕ → Bool) (p : ℕ) → p < n → bit p (mask n f) ≡ f p
unfolding mask total
bit_mask zero f p h = absurd (not-suc-le-zero h)
bit_mask (suc n) f p h =
    ap (bit p) (add_comm (mask n f) (place n (f n)))
    ∙ ⊎_elim
    (λ (e : p ≡ n). rw e (bit_here n (f n) (mask n f) (mask_below n f)))
    (λ (l : p < n). bit_lower p n (one (f n)) (mask n f) l ∙ bit_mask n f p l)
    (eq-or-lt_of_le (le_of_suc-le-suc h))

-- and no bit stands at n or above
pub bit_past : (n : ℕ) (f : ℕ → Bool) (p : ℕ) → n ≤ p → bit p (mask n f) ≡ false
unfolding bit
bit_past n f p h = ap (λ (x : ℕ). eqb (x % 2) 1) (div-eq_of_lt (lt_of_lt_of_le (mask_below n f) (pow_mono h)))

-- places that pass one of two tests, of which none passes both
pub count_either : (n : ℕ) (f g : ℕ → Bool) → ((p : ℕ) → (f p && g p) ≡ false) → count n f + count n g ≡ count n (λ p. f p || g p)
unfolding count
count_either n f g h =
    sym (total_plus n (λ p. one (f p)) (λ p. one (g p)))
    ∙ total_cong n (λ p. one (f p) + one (g p)) (λ p. one (f p || g p)) (λ p l. each (f p) (g p) (h p))
  where
    each : (a b : Bool) → (a && b) ≡ false → one a + one b ≡ one (a || b)
    each true true e = absurd (false≢true (sym e))
    each true false e = refl
    each false true e = refl
    each false false e = refl

-- a mask of more places, by the places that come after: what they are there stands above all before
pub mask_join : (m n : ℕ) (f : ℕ → Bool) → mask (m + n) f ≡ mask m f + mask n (λ p. f (m + p)) * 2 ^ m
unfolding mask total
mask_join m zero f = ap (λ (k : ℕ). mask k f) (add-zero m) ∙ sym (ap (λ (k : ℕ). mask m f + k) (zero-mul (2 ^ m)) ∙ add-zero (mask m f))
mask_join m (suc n) f =
    ap (λ (k : ℕ). mask k f) (add-suc m n)
    ∙ ap (λ (k : ℕ). k + place (m + n) (f (m + n))) (mask_join m n f)
    ∙ ap (λ (k : ℕ). mask m f + mask n (λ p. f (m + p)) * 2 ^ m + one (f (m + n)) * k) (pow-add 2 m n ∙ mul_comm (2 ^ m) (2 ^ n))
    ∙ ap (λ (k : ℕ). mask m f + mask n (λ p. f (m + p)) * 2 ^ m + k) (sym (mul_assoc (one (f (m + n))) (2 ^ n) (2 ^ m)))
    ∙ add_assoc (mask m f) (mask n (λ p. f (m + p)) * 2 ^ m) (one (f (m + n)) * 2 ^ n * 2 ^ m)
    ∙ ap (λ (k : ℕ). mask m f + k) (sym (add-mul (mask n (λ p. f (m + p))) (one (f (m + n)) * 2 ^ n) (2 ^ m)))
