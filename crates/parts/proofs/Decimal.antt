-- What is proved of specs/Decimal.
-- Assumes nothing.
use Prim.Native.Nat.{ℕ, zero, suc, ◌+◌, ◌-◌, ◌*◌, ◌/◌, ◌%◌, ◌^◌, ◌≤◌, ◌<◌}
use mathlib.Core.Path.{◌≡◌, refl, sym, ◌∙◌, ap}
use mathlib.Core.Bool.{Bool, true, false, cond, ◌&&◌}
use mathlib.Core.List.{List, [], ◌∷◌, ◌++◌}
use native.Mathlib.Nat.{mul_assoc, add-mul, pow-suc, le-mul_of_pos_right, zero-mul, zero-add, sub_self, mul-one, add-zero}
use native.Mathlib.Numerals.{add-one}
use native.Mathlib.Omega.{arith}
use lib.Dec.{leb, ltb}
use lib.ListN.{length, get_or, drop, length-drop}
use lib.Seq.{drop-cons, drop-length}
use borrow.Author.Tests.{lt-ltb, le-ltb, lt-leb, le-leb, leb-false, leb-true}
use Rattle.lists.specs.Every.{every}
use Rattle.lists.proofs.Every.{every_not}
use Rattle.lists.proofs.Tests.{and_left, and_right}
use Rattle.std.specs.Prelude.{Some, None}
use Rattle.parts.specs.Decimal.{is_digit, value, most, is_number, number_in, more_of, spelt, decimal}

ten_pos : (k : ℕ) → 0 < 10 ^ k
ten_pos zero = omega arith
ten_pos (suc k) = let h = ten_pos k in rw pow-suc (omega arith)

chosen : (t : Bool) (v m : ℕ) → cond t (Some v) None ≡ Some m → (t ≡ true) × (v ≡ m)
chosen true v m e = (refl, cc)
chosen false v m e = let z : ◌≡◌ {A = ℕ} 0 1 = cc in absurd (omega arith)

unchosen : (t : Bool) (v : ℕ) → cond t (Some v) None ≡ None → t ≡ false
unchosen true v e = let z : ◌≡◌ {A = ℕ} 0 1 = cc in absurd (omega arith)
unchosen false v e = refl

pub more_is : (n b m : ℕ) → more_of n b ≡ Some m → (is_digit b ≡ true) × (m ≡ 10 * n + (b - 48)) × (m ≤ most)
unfolding more_of
more_is n b m e =
    let c = chosen (is_digit b && leb (10 * n + (b - 48)) most) (10 * n + (b - 48)) m e in
    let l = leb-true (10 * n + (b - 48)) most (and_right (is_digit b) _ c.0) in
    (and_left (is_digit b) _ c.0, sym c.1, rw c.1 at l)

carried : (n d v k : ℕ) → n * 10 ^ suc k + (d * 10 ^ k + v) ≡ (10 * n + d) * 10 ^ k + v
carried n d v k =
    let a : n * 10 ^ suc k ≡ n * 10 ^ k * 10 = ap (λ (x : ℕ). n * x) (pow-suc 10 k) ∙ sym (mul_assoc n (10 ^ k) 10) in
    let b : (10 * n + d) * 10 ^ k ≡ 10 * (n * 10 ^ k) + d * 10 ^ k = add-mul (10 * n) d (10 ^ k) ∙ ap (λ (x : ℕ). x + d * 10 ^ k) (mul_assoc 10 n (10 ^ k)) in
    go (n * 10 ^ suc k) (n * 10 ^ k) (d * 10 ^ k) ((10 * n + d) * 10 ^ k) a b
  where
    go : (x y z u : ℕ) → x ≡ y * 10 → u ≡ 10 * y + z → x + (z + v) ≡ u + v
    go x y z u e f = omega arith

-- a word of which i digits are read, as n
unfoldable pub Read : List ℕ → ℕ → ℕ → Type 0
Read w i n = value w ≡ n * 10 ^ (length w - i) + value (drop i w)

pub read_none : (w : List ℕ) → Read w 0 0
unfolding Read
read_none w = sym (ap (λ (x : ℕ). x + value w) (zero-mul (10 ^ (length w - 0))) ∙ zero-add (value w))

module _ (w : List ℕ) (i n : ℕ) (h : i < length w) (r : Read w i n) where
  pub read_more : Read w (i + 1) (10 * n + (get_or w i 0 - 48))
  unfolding Read value
  read_more =
      let k : ℕ = length w - (i + 1) in
      let e : length w - i ≡ suc k = omega arith in
      let f : value (drop i w) ≡ (get_or w i 0 - 48) * 10 ^ k + value (drop (i + 1) w) =
      rw (add-one, drop-cons w i 0) (simp length-drop) in
      r ∙ ap (λ (j : ℕ). n * 10 ^ j + value (drop i w)) e ∙ ap (λ (x : ℕ). n * 10 ^ suc k + x) f ∙ carried n (get_or w i 0 - 48) (value (drop (i + 1) w)) k

  -- what is read can only grow
  read_least : 10 * n + (get_or w i 0 - 48) ≤ value w
  unfolding Read
  read_least =
      let k : ℕ = length w - (i + 1) in
      let m : ℕ = 10 * n + (get_or w i 0 - 48) in
      let g : m ≤ m * 10 ^ k = le-mul_of_pos_right m (ten_pos k) in
      go (value w) m (m * 10 ^ k) (value (drop (i + 1) w)) g read_more
    where
      go : (x y z u : ℕ) → y ≤ z → x ≡ z + u → y ≤ x
      go x y z u a b = omega arith

  pub read_bad : more_of n (get_or w i 0) ≡ None → number_in w ≡ None
  unfolding more_of number_in is_number
  read_bad e = go (is_digit (get_or w i 0)) refl (unchosen (is_digit (get_or w i 0) && leb (10 * n + (get_or w i 0 - 48)) most) (10 * n + (get_or w i 0 - 48)) e)
    where
      over : leb (10 * n + (get_or w i 0 - 48)) most ≡ false → leb (value w) most ≡ false
      over q = lt-leb (value w) most (let a = leb-false (10 * n + (get_or w i 0 - 48)) most q in let b = read_least in omega arith)

      both : (a b c : Bool) → b ≡ false → (a && (b && c)) ≡ false
      both true b c q = rw q
      both false b c q = refl

      last : (a b c : Bool) → c ≡ false → (a && (b && c)) ≡ false
      last true true c q = q
      last true false c q = refl
      last false b c q = refl

      go : (t : Bool) → is_digit (get_or w i 0) ≡ t → (t && leb (10 * n + (get_or w i 0 - 48)) most) ≡ false → cond (ltb 0 (length w) && (every (length w) (λ p. is_digit (get_or w p 0)) && leb (value w) most)) (Some (value w)) None ≡ None
      go true d q = rw (last (ltb 0 (length w)) (every (length w) (λ p. is_digit (get_or w p 0))) (leb (value w) most) (over q))
      go false d q = rw (both (ltb 0 (length w)) (every (length w) (λ p. is_digit (get_or w p 0))) (leb (value w) most) (every_not (length w) (λ p. is_digit (get_or w p 0)) i h d))

-- all digits are read
pub read_all : (w : List ℕ) (i n : ℕ) → i ≡ length w → 0 < length w → n ≤ most → every i (λ p. is_digit (get_or w p 0)) ≡ true → Read w i n → number_in w ≡ Some n
unfolding number_in is_number Read value
read_all w i n e h l d r =
    let v : value w ≡ n =
    r ∙ ap (λ (j : ℕ). n * 10 ^ (length w - j) + value (drop j w)) e ∙ simp (drop-length, sub_self, mul-one, add-zero) in
    simp (v, lt-ltb 0 (length w) h, ap (λ (j : ℕ). every j (λ p. is_digit (get_or w p 0))) (sym e) ∙ d, le-leb n most l)

-- a place that is not needed changes nothing
spelt_more : (k n : ℕ) → n < 10 ^ suc k → spelt (suc (suc k)) n ≡ spelt (suc k) n
unfolding spelt
spelt_more zero n h = simp (lt-ltb n 10 (omega arith))
spelt_more (suc k) n h =
    let i = spelt_more k (n / 10) (tenth n (10 ^ suc k) (rw pow-suc at h)) in
    ap (λ (l : List ℕ). cond (ltb n 10) ((48 + n) ∷ []) (l ++ ((48 + n % 10) ∷ []))) i
  where
    tenth : (x y : ℕ) → x < y * 10 → x / 10 < y
    tenth x y g = omega arith

spelt_on : (k n : ℕ) → 10 ≤ n → spelt (suc k) n ≡ spelt k (n / 10) ++ ((48 + n % 10) ∷ [])
unfolding spelt
spelt_on k n h = simp (le-ltb n 10 h)

pub decimal_one : (n : ℕ) → n < 10 → decimal n ≡ (48 + n) ∷ []
unfolding decimal spelt
decimal_one n h = simp (lt-ltb n 10 h)

pub decimal_more : (n : ℕ) → 10 ≤ n → n ≤ most → decimal n ≡ decimal (n / 10) ++ ((48 + n % 10) ∷ [])
unfolding decimal
decimal_more n h l =
    let i : spelt 20 (n / 10) ≡ spelt 19 (n / 10) = spelt_more 18 (n / 10) (omega arith) in
    spelt_on 19 n h ∙ ap (λ (r : List ℕ). r ++ ((48 + n % 10) ∷ [])) (sym i)
