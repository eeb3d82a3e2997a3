-- What the sharing of a supply is, whatever the claims: a first part of one ranking, which fits, and the longest that does.
-- Assumes nothing.
use Prim.Native.Nat.{ℕ, zero, suc, ◌+◌, ◌≤◌, ◌<◌, zero-le}
use mathlib.Core.Path.{◌≡◌, refl, sym, ◌∙◌, ap, ap₂}
use mathlib.Core.Bool.{Bool, true, false, cond, ◌&&◌, and-true}
use mathlib.Core.Logic.{◌⊎◌, inl, inr, ⊎_elim}
use native.Mathlib.Nat.{le_refl, le_trans, lt_of_lt_of_le, add-le-add, add-zero, zero-add, not-suc-le-zero, eq-or-lt_of_le, le_of_suc-le-suc}
use native.Mathlib.Omega.{arith}
use lib.Dec.{ltb, eqb}
use borrow.Author.Tests.{lt-ltb, le-ltb, le-leb, eq-eqb, ne_eqb, ltb-true, leb-true, leb-false, eqb-true}
use Rattle.lists.proofs.Tests.{passed, not_both_lem, and_left, and_right, and_both, or_either, or_left, or_right}
use Rattle.lists.specs.Total.{total}
use Rattle.lists.proofs.Total.{total_cong, total_mono, total_zero, total_plus}
use Rattle.lists.proofs.Places.{side}
use Rattle.share.specs.Share.{claims, before, met, sum_where, down, keeps, kept_sum, claimed_sum}

less : (a b : Bool) (d : ℕ) → (a ≡ true → b ≡ true) → cond a d 0 ≤ cond b d 0
less true b d h = rw (h refl) (le_refl d)
less false b d h = zero-le

-- The ranking: of two places one is before the other, so that it is one list.
module _ (rank : ℕ → ℕ) where
  pub before_rank : (q p : ℕ) → rank q < rank p → before rank q p ≡ true
  unfolding before
  before_rank q p h = or_left _ _ (lt-ltb _ _ h)

  pub before_place : (q p : ℕ) → rank q ≡ rank p → q < p → before rank q p ≡ true
  unfolding before
  before_place q p e h = or_right (ltb (rank q) (rank p)) _ (and_both _ _ (eq-eqb _ _ e) (lt-ltb _ _ h))

  pub before_cases : (q p : ℕ) → before rank q p ≡ true → (rank q < rank p) ⊎ ((rank q ≡ rank p) × (q < p))
  unfolding before
  before_cases q p e =
      ⊎_elim
      (λ (h : ltb (rank q) (rank p) ≡ true). inl (ltb-true _ _ h))
      (λ (h : (eqb (rank q) (rank p) && ltb q p) ≡ true). inr (eqb-true _ _ (and_left _ _ h), ltb-true _ _ (and_right (eqb (rank q) (rank p)) _ h)))
      (or_either _ _ e)

  pub before_self : (p : ℕ) → before rank p p ≡ false
  unfolding before
  before_self p = simp (le-ltb (rank p) (rank p) (le_refl (rank p)), eq-eqb (rank p) (rank p) refl, le-ltb p p (le_refl p))

  pub before_trans : (r q p : ℕ) → before rank r q ≡ true → before rank q p ≡ true → before rank r p ≡ true
  before_trans r q p e f =
      ⊎_elim
      (λ (h : rank r < rank q).
      ⊎_elim
      (λ (k : rank q < rank p). before_rank r p (omega arith))
      (λ (k : (rank q ≡ rank p) × (q < p)). before_rank r p (omega arith))
      (before_cases q p f))
      (λ (h : (rank r ≡ rank q) × (r < q)).
      ⊎_elim
      (λ (k : rank q < rank p). before_rank r p (omega arith))
      (λ (k : (rank q ≡ rank p) × (q < p)). before_place r p (omega arith) (omega arith))
      (before_cases q p f))
      (before_cases r q e)

  -- the same place, or one of the two is before the other
  pub before_total : (q p : ℕ) → (q ≡ p) ⊎ ((before rank q p ≡ true) ⊎ (before rank p q ≡ true))
  before_total q p =
      ⊎_elim
      (λ (h : rank q < rank p). inr (inl (before_rank q p h)))
      (λ (h : rank p ≤ rank q).
      ⊎_elim
      (λ (k : rank p < rank q). inr (inr (before_rank p q k)))
      (λ (k : rank q ≤ rank p).
      ⊎_elim
      (λ (l : q < p). inr (inl (before_place q p (omega arith) l)))
      (λ (l : p ≤ q).
      ⊎_elim
      (λ (m : p < q). inr (inr (before_place p q (omega arith) m)))
      (λ (m : q ≤ p). inl (omega arith))
      (side p q))
      (side q p))
      (side (rank p) (rank q)))
      (side (rank q) (rank p))

-- a test that passes where another does has the greater sum
pub sum_less : (n : ℕ) (demand : ℕ → ℕ) (f g : ℕ → Bool)
    → ((p : ℕ) → p < n → f p ≡ true → g p ≡ true)
    → sum_where n demand f ≤ sum_where n demand g
unfolding sum_where
sum_less n demand f g h = total_mono n (λ p. cond (f p) (demand p) 0) (λ p. cond (g p) (demand p) 0) (λ p l. less (f p) (g p) (demand p) (h p l))

pub sum_none : (n : ℕ) (demand : ℕ → ℕ) (f : ℕ → Bool) → ((p : ℕ) → p < n → f p ≡ false) → sum_where n demand f ≡ 0
unfolding sum_where
sum_none n demand f h = total_zero n (λ p. cond (f p) (demand p) 0) (λ p l. rw (h p l))

module _ (rank : ℕ → ℕ) where
  pub met_claims : (p q : ℕ) → met rank p q ≡ true → claims rank q ≡ true
  unfolding met
  met_claims p q e = and_left _ _ e

  pub met_self : (p : ℕ) → claims rank p ≡ true → met rank p p ≡ true
  unfolding met
  met_self p e = and_both _ _ e (or_left _ _ (eq-eqb p p refl))

  pub met_before : (p q : ℕ) → claims rank q ≡ true → before rank q p ≡ true → met rank p q ≡ true
  unfolding met
  met_before p q e b = and_both _ _ e (or_right (eqb q p) _ b)

  pub met_cases : (p q : ℕ) → met rank p q ≡ true → (q ≡ p) ⊎ (before rank q p ≡ true)
  unfolding met
  met_cases p q e =
      ⊎_elim
      (λ (h : eqb q p ≡ true). inl (eqb-true q p h))
      (λ (h : before rank q p ≡ true). inr h)
      (or_either (eqb q p) _ (and_right (claims rank q) _ e))

  -- what is met on the way down to a place is met on the way past it
  pub met_past : (r q p : ℕ) → before rank q p ≡ true → met rank q r ≡ true → met rank p r ≡ true
  met_past r q p b e =
      met_before p r (met_claims q r e)
      (⊎_elim (λ (s : r ≡ q). rw s b) (λ (s : before rank r q ≡ true). before_trans rank r q p s b) (met_cases q r e))

-- Going down the ranking
module _ (n : ℕ) (rank demand : ℕ → ℕ) where
  -- the sum never falls
  pub down_rises : (q p : ℕ) → before rank q p ≡ true → down n rank demand q ≤ down n rank demand p
  unfolding down
  down_rises q p b = sum_less n demand (met rank q) (met rank p) (λ r l. met_past rank r q p b)

  pub down_claimed : (p : ℕ) → down n rank demand p ≤ claimed_sum n rank demand
  unfolding down claimed_sum
  down_claimed p = sum_less n demand (met rank p) (claims rank) (λ q l. met_claims rank p q)

  module _ (supply : ℕ) where
    pub kept_claims : (p : ℕ) → keeps n rank demand supply p ≡ true → claims rank p ≡ true
    unfolding keeps
    kept_claims p e = and_left _ _ e

    pub fits_kept : (p : ℕ) → claims rank p ≡ true → down n rank demand p ≤ supply → keeps n rank demand supply p ≡ true
    unfolding keeps
    fits_kept p e h = and_both _ _ e (le-leb _ _ h)

    pub kept_fits : (p : ℕ) → keeps n rank demand supply p ≡ true → down n rank demand p ≤ supply
    unfolding keeps
    kept_fits p e = leb-true _ _ (and_right (claims rank p) _ e)

    -- the kept claims are a first part of the ranking
    pub first_part : (q p : ℕ) → claims rank q ≡ true → before rank q p ≡ true
        → keeps n rank demand supply p ≡ true
        → keeps n rank demand supply q ≡ true
    first_part q p e b k = fits_kept q e (le_trans (down_rises q p b) (kept_fits p k))

    -- "The first that doesn't fit and all after it are shed, smaller ones too."
    pub shed_after : (q p : ℕ) → claims rank q ≡ true → keeps n rank demand supply q ≡ false
        → before rank q p ≡ true
        → keeps n rank demand supply p ≡ false
    shed_after q p e s b =
        ⊎_elim
        (λ (k : keeps n rank demand supply p ≡ true). absurd (not_both_lem _ (first_part q p e b k) s))
        (λ (k : keeps n rank demand supply p ≡ false). k)
        (passed (keeps n rank demand supply p))

    pub all_keep : (p : ℕ) → claimed_sum n rank demand ≤ supply → keeps n rank demand supply p ≡ claims rank p
    unfolding keeps
    all_keep p h =
        ap (λ t. claims rank p && t) (le-leb (down n rank demand p) supply (le_trans (down_claimed p) h)) ∙ and-true (claims rank p)

  -- a greater supply keeps all that a smaller one keeps
  pub more_keeps : (s t p : ℕ) → s ≤ t → keeps n rank demand s p ≡ true → keeps n rank demand t p ≡ true
  more_keeps s t p h k = fits_kept t p (kept_claims s p k) (le_trans (kept_fits s p k) h)

-- The kept claims fit, and no longer first part does.
module _ (n : ℕ) (rank demand : ℕ → ℕ) (supply : ℕ) where
  -- of what is kept below k, the last in the ranking
  record Last (k : ℕ) : Type 0 where
    pub at : ℕ
    pub kept : keeps n rank demand supply at ≡ true
    pub all : (q : ℕ) → q < k → keeps n rank demand supply q ≡ true → met rank at q ≡ true

  last_of : (k at : ℕ) → keeps n rank demand supply at ≡ true
      → ((q : ℕ) → q < k → keeps n rank demand supply q ≡ true → met rank at q ≡ true)
      → (keeps n rank demand supply k ≡ true → met rank at k ≡ true) → Last (suc k)
  last_of k at e below here =
      record {
        at = at;
        kept = e;
        all = λ q l f.
            ⊎_elim (λ (i : q ≡ k). rw i (here (rw i at f))) (λ (m : q < k). below q m f) (eq-or-lt_of_le (le_of_suc-le-suc l));
      }

  -- one place more that is kept: it is met on the way down to the last, or it is the last
  last_more : (k : ℕ) → claims rank k ≡ true → keeps n rank demand supply k ≡ true → Last k → Last (suc k)
  last_more k e f L =
      ⊎_elim
      (λ (i : k ≡ L.at). last_of k L.at L.kept L.all (λ g. rw (sym i) (met_self rank k e)))
      (λ (o : (before rank k L.at ≡ true) ⊎ (before rank L.at k ≡ true)).
      ⊎_elim
      (λ (b : before rank k L.at ≡ true). last_of k L.at L.kept L.all (λ g. met_before rank L.at k e b))
      (λ (b : before rank L.at k ≡ true). last_of k k f (λ q l g. met_past rank q L.at k b (L.all q l g)) (λ g. met_self rank k e))
      o)
      (before_total rank k L.at)

  last : (k : ℕ) → ((q : ℕ) → q < k → keeps n rank demand supply q ≡ false) ⊎ Last k
  last zero = inl (λ q l. absurd (not-suc-le-zero l))
  last (suc k) =
      ⊎_elim
      (λ (none : (q : ℕ) → q < k → keeps n rank demand supply q ≡ false).
      ⊎_elim
      (λ (f : keeps n rank demand supply k ≡ true).
      inr (last_of k k f (λ q l g. absurd (not_both_lem _ g (none q l))) (λ g. met_self rank k (kept_claims n rank demand supply k f))))
      (λ (s : keeps n rank demand supply k ≡ false).
      inl (λ q l. ⊎_elim (λ (i : q ≡ k). rw i s) (λ (m : q < k). none q m) (eq-or-lt_of_le (le_of_suc-le-suc l))))
      (passed (keeps n rank demand supply k)))
      (λ (L : Last k).
      ⊎_elim
      (λ (f : keeps n rank demand supply k ≡ true). inr (last_more k (kept_claims n rank demand supply k f) f L))
      (λ (s : keeps n rank demand supply k ≡ false). inr (last_of k L.at L.kept L.all (λ g. absurd (not_both_lem _ g s))))
      (passed (keeps n rank demand supply k)))
      (last k)

  -- "kept while the sum of demands is at most the supply"
  pub kept_sum_fits : kept_sum n rank demand supply ≤ supply
  unfolding kept_sum down
  kept_sum_fits =
      ⊎_elim
      (λ (none : (q : ℕ) → q < n → keeps n rank demand supply q ≡ false). rw (sum_none n demand (keeps n rank demand supply) none) zero-le)
      (λ (L : Last n).
      le_trans (sum_less n demand (keeps n rank demand supply) (met rank L.at) L.all) (kept_fits n rank demand supply L.at L.kept))
      (last n)

total_at : (n : ℕ) (f : ℕ → ℕ) (q : ℕ) → q < n → total n (λ r. cond (eqb r q) (f r) 0) ≡ f q
unfolding total
total_at zero f q l = absurd (not-suc-le-zero l)
total_at (suc n) f q l =
    ⊎_elim
    (λ (i : q ≡ n).
    ap₂ ◌+◌ (total_zero n (λ r. cond (eqb r q) (f r) 0) (λ r m. simp (ne_eqb r q (λ e. omega arith)))) (simp (eq-eqb n q (sym i)))
    ∙ zero-add (f n)
    ∙ ap f (sym i))
    (λ (m : q < n). ap₂ ◌+◌ (total_at n f q m) (simp (ne_eqb n q (λ e. omega arith))) ∙ add-zero (f q))
    (eq-or-lt_of_le (le_of_suc-le-suc l))

module _ (n : ℕ) (rank demand : ℕ → ℕ) where
  -- the sum down to a claim is its demand and those of the claims before it
  pub down_to : (q : ℕ) → q < n → claims rank q ≡ true
      → down n rank demand q ≡ sum_where n demand (λ r. claims rank r && before rank r q) + demand q
  unfolding down sum_where met
  down_to q l e =
      total_cong n (λ r. cond (met rank q r) (demand r) 0) (λ r. cond (claims rank r && before rank r q) (demand r) 0 + cond (eqb r q) (demand r) 0)
      (λ r m.
      ⊎_elim
      (λ (h : eqb r q ≡ true). rw (eqb-true r q h) (simp (e, eq-eqb q q refl, before_self rank q, zero-add)))
      (λ (h : eqb r q ≡ false). simp (h, add-zero))
      (passed (eqb r q)))
      ∙ total_plus n (λ r. cond (claims rank r && before rank r q) (demand r) 0) (λ r. cond (eqb r q) (demand r) 0)
      ∙ ap (λ x. total n (λ r. cond (claims rank r && before rank r q) (demand r) 0) + x) (total_at n demand q l)

  module _ (supply q : ℕ) (l : q < n) (e : claims rank q ≡ true) (s : keeps n rank demand supply q ≡ false) where
    -- a claim that is shed is over the supply together with the claims before it
    pub shed_over : supply < sum_where n demand (λ r. claims rank r && before rank r q) + demand q
    unfolding keeps
    shed_over = rw (down_to q l e) at (leb-false (down n rank demand q) supply (simp e at s))

    -- so the kept claims are the longest first part that fits: with the first claim that is shed they are over the supply
    pub longest : ((r : ℕ) → r < n → claims rank r ≡ true → before rank r q ≡ true → keeps n rank demand supply r ≡ true)
        → supply < kept_sum n rank demand supply + demand q
    unfolding kept_sum
    longest h =
        lt_of_lt_of_le shed_over
        (add-le-add
        (sum_less n demand (λ r. claims rank r && before rank r q) (keeps n rank demand supply)
        (λ r m b. h r m (and_left _ _ b) (and_right (claims rank r) _ b)))
        (le_refl (demand q)))

-- Only what stands below n counts.
module _ (n : ℕ) (rank rank' demand demand' : ℕ → ℕ)
    (er : (p : ℕ) → p < n → rank p ≡ rank' p)
    (ed : (p : ℕ) → p < n → demand p ≡ demand' p) where
  pub claims_cong : (p : ℕ) → p < n → claims rank p ≡ claims rank' p
  unfolding claims
  claims_cong p l = rw (er p l)

  pub met_cong : (p q : ℕ) → p < n → q < n → met rank p q ≡ met rank' p q
  unfolding met claims before
  met_cong p q l m = simp (er p l, er q m)

  pub down_cong : (p : ℕ) → p < n → down n rank demand p ≡ down n rank' demand' p
  unfolding down sum_where
  down_cong p l =
      total_cong n (λ q. cond (met rank p q) (demand q) 0) (λ q. cond (met rank' p q) (demand' q) 0)
      (λ q m. rw (met_cong p q l m, ed q m))

  pub keeps_cong : (supply p : ℕ) → p < n → keeps n rank demand supply p ≡ keeps n rank' demand' supply p
  unfolding keeps
  keeps_cong supply p l = rw (claims_cong p l, down_cong p l)
