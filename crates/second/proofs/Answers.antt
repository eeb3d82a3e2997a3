-- What is proved of specs/Answers.
-- Assumes nothing.
use Prim.Native.Nat.{ℕ, zero, suc, ◌+◌, ◌/◌, ◌%◌, ◌^◌, ◌<◌, ◌≤◌}
use native.Mathlib.Nat.{add_comm, mod-lt, mod-eq_of_lt}
use native.Mathlib.Omega.{arith}
use mathlib.Core.Path.{◌≡◌, refl, sym, ◌∙◌, ap, ap₂}
use mathlib.Core.Bool.{Bool, ◌&&◌}
use mathlib.Core.List.{List}
use lib.Count.{ones, ones_in, ones_cat}
use lib.Pow.{pow_pos, mod-pow-add}
use lib.Dec.{eqb}
use Rattle.lists.specs.Bits.{bit, one}
use Rattle.lists.proofs.Bits.{one_small}
use Rattle.lists.specs.Count.{count}
use Rattle.lists.specs.Total.{total}
use Rattle.lists.proofs.Total.{total_bound}
use Rattle.std.specs.Prelude.{Result, Ok}
use Rattle.sizes.specs.declared.refusals.Refusal.{Refusal}
use Rattle.table.specs.declared.form.Closed.{Closed}
use Rattle.second.specs.Answers.{bits_right, apart, answer_right}

-- the program's four tests
pub tests_right : (l : List ℕ) (y : Closed) (x : Result Closed Refusal) (p q r : Bool) (i j : ℕ) → p ≡ apart y.a y.b → q ≡ bits_right l y.a 1 → r ≡ bits_right l y.b 2
    → i ≡ count 64 (λ k. bit k y.a) → j ≡ count 64 (λ k. bit k y.b) → x ≡ Ok y → (((p && q) && r) && eqb (i + j) y.number) ≡ answer_right l x
unfolding answer_right
tests_right l y x p q r i j ep eq er ei ej e =
    ap₂ ◌&&◌ (ap₂ ◌&&◌ (ap₂ ◌&&◌ ep eq) er) (ap (λ (k : ℕ). eqb k y.number) (ap₂ ◌+◌ ei ej)) ∙ ap (answer_right l) (sym e)

ones_one : (d : ℕ) → d < 2 → ones d ≡ one (eqb d 1)
unfolding ones ones_in
ones_one zero h = refl
ones_one (suc zero) h = refl
ones_one (suc (suc d)) h = absurd (omega arith)

ones_bit : (n mask : ℕ) → ones (mask / 2 ^ n % 2) ≡ one (bit n mask)
unfolding bit
ones_bit n mask = ones_one (mask / 2 ^ n % 2) (mod-lt (mask / 2 ^ n) (omega arith))

-- the ones of a number's lowest bits are those that are set
ones_low : (n mask : ℕ) → ones (mask % 2 ^ n) ≡ count n (λ p. bit p mask)
unfolding count total
ones_low zero mask = let e : mask % 1 ≡ 0 = omega arith in ap ones e ∙ ones_one 0 (omega arith)
ones_low (suc n) mask =
    ap (λ (k : ℕ). ones (mask % 2 ^ k)) (let e : suc n ≡ 1 + n = omega arith in e) ∙ ap ones (mod-pow-add mask 1 n) ∙ ones_cat n (mask / 2 ^ n % 2) (mask % 2 ^ n) (mod-lt mask (pow_pos n))
    ∙ ap₂ ◌+◌ (ones_bit n mask) (ones_low n mask) ∙ add_comm _ _

pub ones_count : (mask : ℕ) → mask < 2 ^ 64 → (ones mask ≡ count 64 (λ p. bit p mask)) × (ones mask ≤ 64)
unfolding count
ones_count mask h =
    let e : ones mask ≡ count 64 (λ p. bit p mask) = ap ones (sym (mod-eq_of_lt h)) ∙ ones_low 64 mask in
    (e, omega (arith, total_bound 64 1 (λ p. one (bit p mask)) (λ p l. one_small (bit p mask))))
