-- What the passes over the places add up to: the sums of the ranks before a claim's and the running sum of its own are the sum
-- on the way down the ranking to it. Assumes nothing.
use Prim.Native.Nat.{ℕ, zero, suc, ◌+◌, ◌≤◌, ◌<◌, ◌^◌}
use mathlib.Core.Path.{◌≡◌, refl, sym, ◌∙◌, ap, ap₂}
use mathlib.Core.Bool.{Bool, true, false, cond, false≢true}
use mathlib.Core.List.{List}
use mathlib.Core.Logic.{⊎_elim}
use native.Mathlib.Nat.{le_refl, add-zero, zero-add, add_assoc, not-suc-le-zero, eq-or-lt_of_le, le_of_suc-le-suc}
use native.Mathlib.Numerals.{add-one}
use native.Mathlib.Omega.{arith}
use lib.Dec.{ltb, leb, eqb}
use lib.ListN.{length, get_or, set, length-set}
use lib.Seq.{get_or-set_same, get_or-set_other}
use borrow.Author.Tests.{lt-ltb, le-ltb, le-leb, lt-leb, eq-eqb, ne_eqb, ltb-true, eqb-true, eqb-false}
use Rattle.sizes.specs.Sizes.{most_ports}
use Rattle.lists.proofs.Tests.{passed}
use Rattle.lists.specs.Total.{total}
use Rattle.lists.proofs.Total.{total_next, total_cong, total_plus, total_bound}
use Rattle.lists.specs.Places.{tabulate}
use Rattle.lists.proofs.Places.{side, tabulated, length_tabulate, get_d_tabulate, tabulate_cong}
use Rattle.power.specs.Power.{sum_of, plus, join, fits}
use Rattle.power.proofs.PowerLaws.{plus_exact, join_exact}
use Rattle.power.specs.declared.Power.{Power}
use Rattle.power.specs.declared.Sum.{Sum}
use Rattle.share.specs.Share.{claims, before, met, sum_where, down, keeps}
use Rattle.share.specs.Slots.{Small, within, slot_of, of_slot, joined}
use Rattle.share.proofs.Slots.{of_lower}
use Rattle.share.proofs.Laws.{sum_none, met_self, met_before, met_cases, before_rank, before_place, before_trans, before_self}

cond_none : (b : Bool) → ◌≡◌ {A = ℕ} (cond b 0 0) 0
cond_none true = refl
cond_none false = refl

refuted : (a : Bool) → (a ≡ true → ⊥) → a ≡ false
refuted true h = absurd (h refl)
refuted false h = refl

pub sum_next : (n : ℕ) (demand : ℕ → ℕ) (f : ℕ → Bool) → sum_where (n + 1) demand f ≡ sum_where n demand f + cond (f n) (demand n) 0
unfolding sum_where
sum_next n demand f = total_next n (λ p. cond (f p) (demand p) 0)

at_most_lem : (b : Bool) (d m : ℕ) → d ≤ m → cond b d 0 ≤ m
at_most_lem true d m h = h
at_most_lem false d m h = omega arith

-- no sum over the places reaches half the end of its type
pub sum_small : (n : ℕ) (demand : ℕ → ℕ) (f : ℕ → Bool) → n ≤ most_ports → ((p : ℕ) → p < n → demand p < 2 ^ 16)
    → sum_where n demand f ≤ 3145680
unfolding sum_where
sum_small n demand f h s =
    omega (arith, total_bound n 65535 (λ p. cond (f p) (demand p) 0) (λ p l. at_most_lem (f p) (demand p) 65535 (omega (arith, s p l))))

-- an array of sums with one demand more at place k
module _ (m : ℕ) (g h : ℕ → ℕ) (k : ℕ) (d : Power) (l : k < m) (b : g k + d.0 < 2 ^ 32)
    (e : (j : ℕ) → j < m → h j ≡ g j + cond (eqb k j) d.0 0) (sums : List Sum) (i : sums ≡ tabulate m (λ j. sum_of (g j))) where
  pub more_here : plus (get_or sums k (sum_of 0)) d ≡ sum_of (h k)
  more_here =
      ap (λ s. plus s d) (ap (λ s. get_or s k (sum_of 0)) i ∙ get_d_tabulate m (λ j. sum_of (g j)) (sum_of 0) k l)
      ∙ plus_exact (g k) d b
      ∙ ap sum_of (sym (e k l ∙ ap (λ t. g k + cond t d.0 0) (eq-eqb k k refl)))

  pub more_at : set sums k (plus (get_or sums k (sum_of 0)) d) ≡ tabulate m (λ j. sum_of (h j))
  more_at =
      tabulated m (λ j. sum_of (h j)) (sum_of 0) (set sums k (plus (get_or sums k (sum_of 0)) d))
      (length-set sums k (plus (get_or sums k (sum_of 0)) d) ∙ long)
      (λ j o.
      ⊎_elim
      (λ (t : eqb k j ≡ true). rw (sym (eqb-true k j t)) (get_or-set_same sums k _ (sum_of 0) (omega (arith, long)) ∙ more_here))
      (λ (t : eqb k j ≡ false).
      get_or-set_other sums k j _ (sum_of 0) (λ q. eqb-false k j t (sym q))
      ∙ ap (λ s. get_or s j (sum_of 0)) i
      ∙ get_d_tabulate m (λ j. sum_of (g j)) (sum_of 0) j o
      ∙ ap sum_of (sym (e j o ∙ ap (λ t. g j + cond t d.0 0) t ∙ add-zero (g j))))
      (passed (eqb k j)))
    where
      long : length sums ≡ m
      long = ap length i ∙ length_tabulate m (λ j. sum_of (g j))

-- one place more in the sum of its slot
pub slot_more : (n : ℕ) (rank demand : ℕ → ℕ) (j : ℕ)
    → of_slot (n + 1) rank demand j ≡ of_slot n rank demand j + cond (eqb (slot_of (rank n)) j) (demand n) 0
unfolding of_slot
slot_more n rank demand j = sum_next n demand (λ q. eqb (slot_of (rank q)) j)

pub slot_none : (rank demand : ℕ → ℕ) (j : ℕ) → of_slot 0 rank demand j ≡ 0
unfolding of_slot
slot_none rank demand j = sum_none 0 demand (λ q. eqb (slot_of (rank q)) j) (λ p l. absurd (not-suc-le-zero l))

pub slot_small : (n : ℕ) (rank demand : ℕ → ℕ) (j : ℕ) → n ≤ most_ports → ((p : ℕ) → p < n → demand p < 2 ^ 16) → of_slot n rank demand j ≤ 3145680
unfolding of_slot
slot_small n rank demand j h s = sum_small n demand (λ q. eqb (slot_of (rank q)) j) h s

pub lower_small : (rank demand : ℕ → ℕ) (j : ℕ) → Small demand → of_lower most_ports rank demand j ≤ 3145680
unfolding of_lower
lower_small rank demand j s = sum_small most_ports demand (λ q. ltb (slot_of (rank q)) j) (le_refl most_ports) s

lower_none : (n : ℕ) (rank demand : ℕ → ℕ) → of_lower n rank demand 0 ≡ 0
unfolding of_lower
lower_none n rank demand = sum_none n demand (λ q. ltb (slot_of (rank q)) 0) (λ p l. le-ltb (slot_of (rank p)) 0 (omega arith))

-- below suc k is below k or at k
one_more : (s k d : ℕ) → cond (ltb s (suc k)) d 0 ≡ cond (ltb s k) d 0 + cond (eqb s k) d 0
one_more s k d =
    ⊎_elim
    (λ (l : s < k). simp (lt-ltb s (suc k) (omega arith), lt-ltb s k l, ne_eqb s k (λ e. omega arith), add-zero))
    (λ (g : k ≤ s).
    ⊎_elim
    (λ (l : k < s). simp (le-ltb s (suc k) l, le-ltb s k g, ne_eqb s k (λ e. omega arith)))
    (λ (l : s ≤ k). simp (lt-ltb s (suc k) (omega arith), le-ltb s k g, eq-eqb s k (omega arith), zero-add))
    (side k s))
    (side s k)

lower_more : (n : ℕ) (rank demand : ℕ → ℕ) (k : ℕ) → of_lower n rank demand (suc k) ≡ of_lower n rank demand k + of_slot n rank demand k
unfolding of_lower of_slot sum_where
lower_more n rank demand k =
    total_cong n (λ q. cond (ltb (slot_of (rank q)) (suc k)) (demand q) 0)
    (λ q. cond (ltb (slot_of (rank q)) k) (demand q) 0 + cond (eqb (slot_of (rank q)) k) (demand q) 0)
    (λ q l. one_more (slot_of (rank q)) k (demand q))
    ∙ total_plus n (λ q. cond (ltb (slot_of (rank q)) k) (demand q) 0) (λ q. cond (eqb (slot_of (rank q)) k) (demand q) 0)

-- the sums of the slots before k in one are the demands of the ranks before k
pub joined_lower : (rank demand : ℕ → ℕ) → Small demand → (sums : List Sum) → sums ≡ tabulate 7 (λ k. sum_of (of_slot most_ports rank demand k))
    → (k : ℕ) → k ≤ 7 → joined sums k ≡ sum_of (of_lower most_ports rank demand k)
unfolding joined
joined_lower rank demand s sums e zero h = ap sum_of (sym (lower_none most_ports rank demand))
joined_lower rank demand s sums e (suc k) h =
    ap₂ join (joined_lower rank demand s sums e k (omega arith))
    (ap (λ l. get_or l k (sum_of 0)) e ∙ get_d_tabulate 7 (λ k. sum_of (of_slot most_ports rank demand k)) (sum_of 0) k h)
    ∙ join_exact (of_lower most_ports rank demand k) (of_slot most_ports rank demand k)
    (omega (arith, lower_small rank demand k s, slot_small most_ports rank demand k (le_refl most_ports) s))
    ∙ ap sum_of (sym (lower_more most_ports rank demand k))

-- what the sum of slot k has come to before place p, in its turn
abbrev pub in_line : (ℕ → ℕ) → (ℕ → ℕ) → ℕ → ℕ → ℕ
in_line rank demand p k = of_lower most_ports rank demand k + of_slot p rank demand k

pub line_starts : (rank demand : ℕ → ℕ) → Small demand → (sums : List Sum) → sums ≡ tabulate 7 (λ k. sum_of (of_slot most_ports rank demand k))
    → tabulate 7 (joined sums) ≡ tabulate 7 (λ k. sum_of (in_line rank demand 0 k))
line_starts rank demand s sums e =
    tabulate_cong 7 (joined sums) (λ k. sum_of (in_line rank demand 0 k))
    (λ k l. joined_lower rank demand s sums e k (omega arith)
    ∙ ap sum_of (sym (ap (λ x. of_lower most_ports rank demand k + x) (slot_none rank demand k) ∙ add-zero _)))

pub line_more : (rank demand : ℕ → ℕ) (p k j : ℕ) → k ≡ slot_of (rank p)
    → in_line rank demand (p + 1) j ≡ in_line rank demand p j + cond (eqb k j) (demand p) 0
line_more rank demand p k j e =
    ap (λ x. of_lower most_ports rank demand j + x) (slot_more p rank demand j ∙ ap (λ s. of_slot p rank demand j + cond (eqb s j) (demand p) 0) (sym e))
    ∙ sym (add_assoc (of_lower most_ports rank demand j) (of_slot p rank demand j) (cond (eqb k j) (demand p) 0))

-- the places up to p, among n
total_cut : (n : ℕ) (f : ℕ → ℕ) (p : ℕ) → p < n → total n (λ q. cond (leb q p) (f q) 0) ≡ total (suc p) f
unfolding total
total_cut zero f p h = absurd (not-suc-le-zero h)
total_cut (suc n) f p h =
    ⊎_elim
    (λ (e : p ≡ n).
    rw (sym e) (total_cong (suc p) (λ q. cond (leb q p) (f q) 0) f (λ q l. simp (le-leb q p (le_of_suc-le-suc l)))))
    (λ (l : p < n). ap₂ ◌+◌ (total_cut n f p l) (simp (lt-leb n p l)) ∙ add-zero (total (suc p) f))
    (eq-or-lt_of_le (le_of_suc-le-suc h))

-- what is ranked after p is not met on the way down to it, and neither is what is no claim
met_after : (rank : ℕ → ℕ) (p q : ℕ) → before rank p q ≡ true → met rank p q ≡ false
met_after rank p q b =
    refuted (met rank p q)
    (λ m.
    never
    (⊎_elim
    (λ (i : q ≡ p). rw i at b)
    (λ (c : before rank q p ≡ true). before_trans rank p q p b c)
    (met_cases rank p q m)))
  where
    never : before rank p p ≡ true → ⊥
    never c = false≢true (sym (before_self rank p) ∙ c)

met_other : (rank : ℕ → ℕ) (p q : ℕ) → claims rank q ≡ false → met rank p q ≡ false
unfolding met
met_other rank p q f = simp f

slot_other : (rank : ℕ → ℕ) (p : ℕ) → claims rank p ≡ false → slot_of (rank p) ≡ 6
unfolding claims slot_of
slot_other rank p e = simp e

slot_claim : (rank : ℕ → ℕ) (p : ℕ) → claims rank p ≡ true → (slot_of (rank p) ≡ rank p) × (rank p < 6)
unfolding claims slot_of
slot_claim rank p e = (simp e, ltb-true (rank p) 6 e)

-- what a place adds on the way down to p: all of it in a lower rank, and up to p in the same
split_at : (rank : ℕ → ℕ) (p q d : ℕ) → claims rank p ≡ true
    → cond (met rank p q) d 0 ≡ cond (ltb (slot_of (rank q)) (slot_of (rank p))) d 0 + cond (leb q p) (cond (eqb (slot_of (rank q)) (slot_of (rank p))) d 0) 0
split_at rank p q d e = ⊎_elim claim other (passed (claims rank q))
  where
    P : (slot_of (rank p) ≡ rank p) × (rank p < 6)
    P = slot_claim rank p e

    here : claims rank q ≡ true → rank q ≡ rank p → q ≤ p → met rank p q ≡ true
    here f i a =
        ⊎_elim
        (λ (j : q ≡ p). rw j (met_self rank p e))
        (λ (b : q < p). met_before rank p q f (before_place rank q p i b))
        (eq-or-lt_of_le a)

    other : claims rank q ≡ false
        → cond (met rank p q) d 0 ≡ cond (ltb (slot_of (rank q)) (slot_of (rank p))) d 0 + cond (leb q p) (cond (eqb (slot_of (rank q)) (slot_of (rank p))) d 0) 0
    other f =
        rw P.0
        (simp (
          met_other rank p q f,
          slot_other rank q f,
          le-ltb 6 (rank p) (omega (arith, P.1)),
          ne_eqb 6 (rank p) (λ i. omega (arith, P.1)),
          cond_none,
        ))

    claim : claims rank q ≡ true
        → cond (met rank p q) d 0 ≡ cond (ltb (slot_of (rank q)) (slot_of (rank p))) d 0 + cond (leb q p) (cond (eqb (slot_of (rank q)) (slot_of (rank p))) d 0) 0
    claim f =
        rw (P.0, (slot_claim rank q f).0)
        (⊎_elim
        (λ (l : rank q < rank p).
        simp (met_before rank p q f (before_rank rank q p l), lt-ltb _ _ l, ne_eqb (rank q) (rank p) (λ i. omega arith), cond_none, add-zero))
        (λ (g : rank p ≤ rank q).
        ⊎_elim
        (λ (l : rank p < rank q).
        simp (met_after rank p q (before_rank rank p q l), le-ltb _ _ g, ne_eqb (rank q) (rank p) (λ i. omega arith), cond_none))
        (λ (l : rank q ≤ rank p).
        ⊎_elim
        (λ (a : p < q).
        simp (met_after rank p q (before_place rank p q (omega arith) a), le-ltb _ _ g, eq-eqb (rank q) (rank p) (omega arith), lt-leb q p a))
        (λ (a : q ≤ p).
        simp (here f (omega arith) a, le-ltb _ _ g, eq-eqb (rank q) (rank p) (omega arith), le-leb q p a, zero-add))
        (side p q))
        (side (rank p) (rank q)))
        (side (rank q) (rank p)))

-- the sum on the way down to a claim
pub turn : (n : ℕ) (rank demand : ℕ → ℕ) (p : ℕ) → p < n → claims rank p ≡ true
    → of_lower n rank demand (slot_of (rank p)) + of_slot (p + 1) rank demand (slot_of (rank p)) ≡ down n rank demand p
unfolding of_lower of_slot sum_where down
turn n rank demand p l e =
    sym
    (total_cong n (λ q. cond (met rank p q) (demand q) 0)
    (λ q. cond (ltb (slot_of (rank q)) (slot_of (rank p))) (demand q) 0 + cond (leb q p) (cond (eqb (slot_of (rank q)) (slot_of (rank p))) (demand q) 0) 0)
    (λ q m. split_at rank p q (demand q) e)
    ∙ total_plus n (λ q. cond (ltb (slot_of (rank q)) (slot_of (rank p))) (demand q) 0)
    (λ q. cond (leb q p) (cond (eqb (slot_of (rank q)) (slot_of (rank p))) (demand q) 0) 0)
    ∙ ap (λ x. total n (λ q. cond (ltb (slot_of (rank q)) (slot_of (rank p))) (demand q) 0) + x)
    (total_cut n (λ q. cond (eqb (slot_of (rank q)) (slot_of (rank p))) (demand q) 0) p l
    ∙ ap (λ k. total k (λ q. cond (eqb (slot_of (rank q)) (slot_of (rank p))) (demand q) 0)) (sym (add-one p))))

pub turn_kept : (n : ℕ) (rank demand : ℕ → ℕ) (supply : Power) (p : ℕ) → p < n
    → within (sum_of (of_lower n rank demand (slot_of (rank p)) + of_slot (p + 1) rank demand (slot_of (rank p)))) (rank p) supply
    ≡ keeps n rank demand supply.0 p
unfolding within keeps claims fits
turn_kept n rank demand supply p l =
    ⊎_elim
    (λ (e : ltb (rank p) 6 ≡ true). simp (e, turn n rank demand p l e))
    (λ (e : ltb (rank p) 6 ≡ false). simp e)
    (passed (ltb (rank p) 6))
