-- What is proved of specs/LossLaws. The request's two rules are tests that the checker computes once over the code's table; what they show
-- is carried to each entry, and each entry is then the loss that the definition searches for.
-- Assumes nothing.
use Prim.Native.Nat.{ℕ, zero, suc, ◌+◌, ◌*◌, ◌≤◌, ◌<◌, zero-le}
use mathlib.Core.Path.{◌≡◌, refl, sym, ◌∙◌, ap, subst}
use mathlib.Core.Bool.{Bool, true, false, cond, ◌&&◌}
use mathlib.Core.List.{List, [], ◌∷◌}
use mathlib.Core.Logic.{⊎_elim}
use native.Mathlib.Nat.{le_refl, le_trans, lt_of_le_of_lt, le_of_suc-le-suc, not-suc-le-zero, eq-or-lt_of_le, add-zero, add-suc, suc-add, zero-add}
use native.Mathlib.Omega.{arith}
use lib.Dec.{leb, ltb}
use lib.ListN.{length, get_or}
use borrow.Author.Tests.{leb-true, ltb-true, le-leb, lt-leb}
use Rattle.lists.specs.Every.{every}
use Rattle.lists.proofs.Every.{every_at}
use Rattle.lists.proofs.Tests.{and_left, and_right}
use Rattle.four_pair.specs.FourPair.{through, first_of, loss_of}
use Rattle.four_pair.specs.LossLaws.{Reaches, Smallest, Rises}
use Rattle.four_pair.proofs.Table.{losses}

-- More that goes in lets more through, up to 600: one test, and so it is at each two
more : every 600 (λ p. ltb (through p) (through (suc p))) ≡ true
unfolding every through
more = refl

more_at : (p : ℕ) → p < 600 → through p ≤ through (suc p)
more_at p l =
    omega (arith, ltb-true (through p) (through (suc p)) (every_at 600 (λ n. ltb (through n) (through (suc n))) more p l))

through_rises : (q p : ℕ) → q ≤ p → p ≤ 600 → through q ≤ through p
through_rises q zero h l = subst (λ (n : ℕ). through q ≤ through n) (omega (arith, h)) (le_refl (through q))
through_rises q (suc p) h l =
    ⊎_elim
    (λ (e : q ≡ suc p). rw e (le_refl (through (suc p))))
    (λ (b : q < suc p). le_trans (through_rises q p (le_of_suc-le-suc b) (omega (arith, l))) (more_at p l))
    (eq-or-lt_of_le h)

-- the number before p does not reach the request, if there is one
abbrev before : ℕ → ℕ → Bool
before x zero = true
before x (suc p) = ltb (through p) (4000 * x)

-- "the smallest p with 4000p - p² at least 4000x", as a test of one entry
abbrev right : ℕ → ℕ → Bool
right x p = leb p 600 && (leb (4000 * x) (through p) && before x p)

-- the test of a table, its first entry that of request x
unfoldable all_right : ℕ → List ℕ → Bool
all_right x [] = true
all_right x (p ∷ ps) = right x p && all_right (suc x) ps

all_right_at : (x : ℕ) (ps : List ℕ) → all_right x ps ≡ true → (k : ℕ) → k < length ps → right (x + k) (get_or ps k 0) ≡ true
unfolding all_right
all_right_at x [] e k h = absurd (not-suc-le-zero h)
all_right_at x (p ∷ ps) e zero h = subst (λ (n : ℕ). right n p ≡ true) (sym (add-zero x)) (and_left (right x p) (all_right (suc x) ps) e)
all_right_at x (p ∷ ps) e (suc k) h =
    subst (λ (n : ℕ). right n (get_or ps k 0) ≡ true) (suc-add x k ∙ sym (add-suc x k))
    (all_right_at (suc x) ps (and_right (right x p) (all_right (suc x) ps) e) k (le_of_suc-le-suc h))

-- The rule of the table, computed once over it
smallest_over_table : all_right 0 losses ≡ true
unfolding all_right losses through
smallest_over_table = refl

-- its entries
abbrev entry : ℕ → ℕ
entry x = get_or losses x 0

long : length losses ≡ 511
unfolding losses
long = refl

in_table : (x : ℕ) → x ≤ 510 → x < length losses
in_table x h = omega (arith, h, long)

entry_right : (x : ℕ) → x ≤ 510 → right x (entry x) ≡ true
entry_right x h =
    subst (λ (n : ℕ). right n (entry x) ≡ true) (zero-add x) (all_right_at 0 losses smallest_over_table x (in_table x h))

entry_small : (x : ℕ) → x ≤ 510 → entry x ≤ 600
entry_small x h = leb-true (entry x) 600 (and_left (leb (entry x) 600) (leb (4000 * x) (through (entry x)) && before x (entry x)) (entry_right x h))

entry_rest : (x : ℕ) → x ≤ 510 → (leb (4000 * x) (through (entry x)) && before x (entry x)) ≡ true
entry_rest x h = and_right (leb (entry x) 600) (leb (4000 * x) (through (entry x)) && before x (entry x)) (entry_right x h)

entry_reaches : (x : ℕ) → x ≤ 510 → 4000 * x ≤ through (entry x)
entry_reaches x h = leb-true (4000 * x) (through (entry x)) (and_left (leb (4000 * x) (through (entry x))) (before x (entry x)) (entry_rest x h))

-- what the number before does not reach no smaller one does
before_all : (x p q : ℕ) → p ≤ 600 → before x p ≡ true → q < p → through q < 4000 * x
before_all x zero q l e h = absurd (not-suc-le-zero h)
before_all x (suc p) q l e h = lt_of_le_of_lt (through_rises q p (le_of_suc-le-suc h) (omega (arith, l))) (ltb-true (through p) (4000 * x) e)

entry_smallest : (x q : ℕ) → x ≤ 510 → q < entry x → through q < 4000 * x
entry_smallest x q h l =
    before_all x (entry x) q (entry_small x h) (and_right (leb (4000 * x) (through (entry x))) (before x (entry x)) (entry_rest x h)) l

cond_true : (t : Bool) (a b : ℕ) → t ≡ true → cond t a b ≡ a
cond_true t a b e = simp e

cond_false : (t : Bool) (a b : ℕ) → t ≡ false → cond t a b ≡ b
cond_false t a b e = simp e

-- a search finds the number that passes if none below it does
first_is : (f : ℕ → Bool) (n p k : ℕ) → p ≤ k → k < p + n → f k ≡ true → ((q : ℕ) → q < k → f q ≡ false) → first_of f n p ≡ k
unfolding first_of
first_is f zero p k h l e none = absurd (omega (arith, h, l))
first_is f (suc n) p k h l e none =
    ⊎_elim
    (λ (q : p ≡ k). cond_true (f p) p (first_of f n (suc p)) (ap f q ∙ e) ∙ q)
    (λ (b : p < k). cond_false (f p) p (first_of f n (suc p)) (none p b) ∙ first_is f n (suc p) k b (omega (arith, l)) e none)
    (eq-or-lt_of_le h)

-- and 0 if none passes
first_none : (f : ℕ → Bool) (n p : ℕ) → ((q : ℕ) → q < p + n → f q ≡ false) → first_of f n p ≡ 0
unfolding first_of
first_none f zero p none = refl
first_none f (suc n) p none =
    cond_false (f p) p (first_of f n (suc p)) (none p (omega arith)) ∙ first_none f n (suc p) (λ q h. none q (omega (arith, h)))

-- The code's table holds the losses
pub loss_entry : (x : ℕ) → x ≤ 510 → loss_of x ≡ get_or losses x 0
unfolding loss_of
loss_entry x h =
    first_is (λ p. leb (4000 * x) (through p)) _ 0 (entry x) zero-le (omega (arith, entry_small x h))
    (le-leb (4000 * x) (through (entry x)) (entry_reaches x h))
    (λ q l. lt-leb (4000 * x) (through q) (entry_smallest x q h l))

-- and past it there are none: 600 lets 510 through, and no more
most_through : through 600 ≡ 4000 * 510
unfolding through
most_through = refl

pub loss_none : (x : ℕ) → 510 < x → loss_of x ≡ 0
unfolding loss_of
loss_none x h =
    first_none (λ p. leb (4000 * x) (through p)) _ 0
    (λ q l. lt-leb (4000 * x) (through q) (omega (arith, through_rises q 600 (omega (arith, l)) (le_refl 600), most_through, h)))

pub loss_reaches : Reaches
loss_reaches x h = subst (λ (p : ℕ). 4000 * x ≤ through p) (sym (loss_entry x h)) (entry_reaches x h)

pub loss_smallest : Smallest
loss_smallest x q h l = entry_smallest x q h (subst (λ (p : ℕ). q < p) (loss_entry x h) l)

-- "never decreasing", as a test of a table: no entry is below the one before it
unfoldable never_falls : ℕ → List ℕ → Bool
never_falls x [] = true
never_falls x (y ∷ ys) = leb x y && never_falls y ys

never_below : (x : ℕ) (ys : List ℕ) → never_falls x ys ≡ true → (k : ℕ) → k < length ys → x ≤ get_or ys k 0
unfolding never_falls
never_below x [] e k h = absurd (not-suc-le-zero h)
never_below x (y ∷ ys) e zero h = leb-true x y (and_left (leb x y) (never_falls y ys) e)
never_below x (y ∷ ys) e (suc k) h =
    le_trans (leb-true x y (and_left (leb x y) (never_falls y ys) e)) (never_below y ys (and_right (leb x y) (never_falls y ys) e) k (le_of_suc-le-suc h))

never_falls_lem : (x : ℕ) (ys : List ℕ) → never_falls x ys ≡ true → (j k : ℕ) → j ≤ k → k < length ys → get_or ys j 0 ≤ get_or ys k 0
unfolding never_falls
never_falls_lem x [] e j k l h = absurd (not-suc-le-zero h)
never_falls_lem x (y ∷ ys) e zero zero l h = le_refl y
never_falls_lem x (y ∷ ys) e zero (suc k) l h = never_below y ys (and_right (leb x y) (never_falls y ys) e) k (le_of_suc-le-suc h)
never_falls_lem x (y ∷ ys) e (suc j) zero l h = absurd (not-suc-le-zero l)
never_falls_lem x (y ∷ ys) e (suc j) (suc k) l h =
    never_falls_lem y ys (and_right (leb x y) (never_falls y ys) e) j k (le_of_suc-le-suc l) (le_of_suc-le-suc h)

-- The order of the table, computed once over it
rising_over_table : never_falls 0 losses ≡ true
unfolding never_falls losses
rising_over_table = refl

pub loss_rises : Rises
loss_rises x y h l =
    subst (λ (p : ℕ). p ≤ loss_of y) (sym (loss_entry x (le_trans h l)))
    (subst (λ (p : ℕ). entry x ≤ p) (sym (loss_entry y l)) (never_falls_lem 0 losses rising_over_table x y h (in_table y l)))
