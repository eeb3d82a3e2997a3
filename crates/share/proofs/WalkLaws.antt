-- The walk down the ranking keeps the places that `keeps` names. Assumes nothing.
use Prim.Native.Nat.{ℕ, zero, suc, ◌+◌, ◌≤◌, ◌<◌}
use mathlib.Core.Path.{◌≡◌, refl, sym, ◌∙◌, ap}
use mathlib.Core.Bool.{Bool, true, false, cond, ◌&&◌, ◌||◌, and-true, and-false, or-true, or-false}
use mathlib.Core.List.{List, [], ◌∷◌, ◌++◌}
use mathlib.Core.Logic.{◌⊎◌, ⊎_elim}
use native.Mathlib.Nat.{le_refl}
use native.Mathlib.Omega.{arith}
use lib.Dec.{ltb, leb, eqb}
use borrow.Author.Tests.{lt-ltb, le-ltb, eq-eqb, ne_eqb, eqb-true}
use Rattle.lists.specs.Entries.{some}
use Rattle.lists.proofs.Tests.{passed, not_both_lem, choice_on, or_left}
use Rattle.lists.proofs.Total.{total_cong}
use Rattle.lists.proofs.Places.{side}
use Rattle.share.specs.Share.{no_claim, claims, before, met, sum_where, down, keeps}
use Rattle.share.proofs.Laws.{sum_none, before_total, down_to, kept_claims, shed_after}
use Rattle.share.specs.Walk.{of_rank, ranked_below, ranking, walk, walked, is_in}

-- below suc m is below m or at m
lower : (q m : ℕ) → ltb q (suc m) ≡ (ltb q m || eqb q m)
lower q m =
    ⊎_elim
    (λ (l : q < m). simp (lt-ltb q m l, lt-ltb q (suc m) (omega arith)))
    (λ (g : m ≤ q).
    ⊎_elim
    (λ (l : m < q). simp (le-ltb q m g, le-ltb q (suc m) l, ne_eqb q m (λ e. omega arith)))
    (λ (l : q ≤ m). simp (le-ltb q m g, lt-ltb q (suc m) (omega arith), eq-eqb q m (omega arith)))
    (side m q))
    (side q m)

module _ (rank : ℕ → ℕ) where
  -- what is passed of the ranking where it has come to place m of rank k
  abbrev behind : ℕ → ℕ → ℕ → Bool
  behind k m q = ltb (rank q) k || (eqb (rank q) k && ltb q m)

  behind_none : (q : ℕ) → behind 0 0 q ≡ false
  behind_none q = simp (le-ltb (rank q) 0 (omega arith), le-ltb q 0 (omega arith), and-false)

  -- one place on: place m is of rank k and is passed, or it is of another rank
  behind_here : (k m q : ℕ) → rank m ≡ k → (eqb q m || before rank q m) ≡ behind k (suc m) q
  unfolding before
  behind_here k m q e =
      ⊎_elim
      (λ (t : eqb q m ≡ true). simp (t, lower q m, eq-eqb (rank q) k (ap rank (eqb-true q m t) ∙ e), or-true))
      (λ (t : eqb q m ≡ false). simp (t, e, lower q m, or-false))
      (passed (eqb q m))

  behind_other : (k m q : ℕ) → eqb (rank m) k ≡ false → behind k m q ≡ behind k (suc m) q
  behind_other k m q e =
      ⊎_elim
      (λ (t : eqb q m ≡ true). simp (ap (λ x. eqb (rank x) k) (eqb-true q m t) ∙ e))
      (λ (t : eqb q m ≡ false). simp (t, lower q m, or-false))
      (passed (eqb q m))

  -- one rank on, after all places below n
  behind_rank : (n k q : ℕ) → q < n → behind k n q ≡ behind (suc k) 0 q
  behind_rank n k q l = simp (lt-ltb q n l, le-ltb q 0 (omega arith), lower (rank q) k, and-true, and-false, or-false)

module _ (n : ℕ) (rank : ℕ → ℕ) where
  -- A way down the ranking along a list: g tells what is passed before the list, and h what is passed after it. Each place of the
  -- list is a claim, and what is passed when the way comes to it is all that is ranked before it.
  data Way : (ℕ → Bool) → List ℕ → (ℕ → Bool) → Type 0 where
    there : {g h : ℕ → Bool} → ((q : ℕ) → q < n → g q ≡ h q) → Way g [] h
    next : {g h : ℕ → Bool} {p : ℕ} {rest : List ℕ} → p < n → claims rank p ≡ true
        → ((q : ℕ) → q < n → g q ≡ before rank q p)
        → Way (λ q. eqb q p || before rank q p) rest h
        → Way g (p ∷ rest) h

  way_from : {g g' h : ℕ → Bool} {places : List ℕ} → ((q : ℕ) → q < n → g q ≡ g' q) → Way g' places h → Way g places h
  way_from e (there f) = there (λ q l. e q l ∙ f q l)
  way_from e (next l c f w) = next l c (λ q m. e q m ∙ f q m) w

  way_to : {g h h' : ℕ → Bool} {places : List ℕ} → Way g places h → ((q : ℕ) → q < n → h q ≡ h' q) → Way g places h'
  way_to (there e) f = there (λ q l. e q l ∙ f q l)
  way_to (next l c e w) f = next l c e (way_to w f)

  -- one way and then another
  way_on : {g h i : ℕ → Bool} {xs ys : List ℕ} → Way g xs h → Way h ys i → Way g (xs ++ ys) i
  way_on (there e) v = way_from e v
  way_on (next l c e w) v = next l c e (way_on w v)

  way_rank : (k m : ℕ) → k < no_claim → m ≤ n → Way (behind rank k 0) (of_rank m rank k) (behind rank k m)
  unfolding of_rank before claims
  way_rank k zero c h = there (λ q l. refl)
  way_rank k (suc m) c h =
      way_on (way_rank k m c (omega arith))
      (choice_on (λ places. Way (behind rank k m) places (behind rank k (suc m))) (eqb (rank m) k) (m ∷ []) []
      (λ e.
      let i : rank m ≡ k = eqb-true (rank m) k e in
      next h (lt-ltb (rank m) no_claim (omega arith)) (λ q l. simp i) (there (λ q l. behind_here rank k m q i)))
      (λ e. there (λ q l. behind_other rank k m q e)))

  way_ranks : (k : ℕ) → k ≤ no_claim → Way (behind rank 0 0) (ranked_below n rank k) (behind rank k 0)
  unfolding ranked_below
  way_ranks zero h = there (λ q l. refl)
  way_ranks (suc k) h = way_on (way_ranks k (omega arith)) (way_to (way_rank k n h (le_refl n)) (behind_rank rank n k))

module _ (n : ℕ) (rank demand : ℕ → ℕ) where
  -- the sum of the claims that are passed, with the demand of the place that comes next, is the sum down to that place
  sum_here : (g : ℕ → Bool) (sum p : ℕ) → sum ≡ sum_where n demand (λ q. claims rank q && g q) → p < n → claims rank p ≡ true
      → ((q : ℕ) → q < n → g q ≡ before rank q p)
      → sum + demand p ≡ down n rank demand p
  unfolding sum_where
  sum_here g sum p s l c e =
      ap (λ x. x + demand p)
      (s
      ∙ total_cong n (λ q. cond (claims rank q && g q) (demand q) 0) (λ q. cond (claims rank q && before rank q p) (demand q) 0)
      (λ q m. rw (e q m)))
      ∙ sym (down_to n rank demand p l c)

  module _ (supply p : ℕ) where
    -- a shed claim that p is not before: p is shed too
    shed_with : (q : ℕ) → claims rank q ≡ true → keeps n rank demand supply q ≡ false → before rank p q ≡ false
        → keeps n rank demand supply p ≡ false
    shed_with q c k f =
        ⊎_elim
        (λ (i : p ≡ q). rw i k)
        (λ (o : (before rank p q ≡ true) ⊎ (before rank q p ≡ true)).
        ⊎_elim
        (λ (b : before rank p q ≡ true). absurd (not_both_lem (before rank p q) b f))
        (λ (b : before rank q p ≡ true). shed_after n rank demand supply q p c k b)
        o)
        (before_total rank p q)

    -- What the walk keeps of a list that leads on from what is passed, p not among it, to all claims. A claim that comes next is
    -- kept or not as `keeps` says: if it is, it is p or p comes later; if not, p is shed too.
    way_walk : {g h : ℕ → Bool} {places : List ℕ} → p < n → Way n rank g places h → ((q : ℕ) → claims rank q ≡ true → h q ≡ true)
        → (sum : ℕ) → sum ≡ sum_where n demand (λ q. claims rank q && g q) → g p ≡ false
        → is_in p (walk demand supply sum places) ≡ keeps n rank demand supply p
    unfolding is_in some walk down met keeps
    way_walk l (there {h = h} e) all sum s f =
        ⊎_elim
        (λ (k : keeps n rank demand supply p ≡ true).
        absurd (not_both_lem (h p) (all p (kept_claims n rank demand supply p k)) (sym (e p l) ∙ f)))
        (λ (k : keeps n rank demand supply p ≡ false). sym k)
        (passed (keeps n rank demand supply p))
    way_walk l (next {g = g} {p = x} m c e w) all sum s f =
        let here : sum + demand x ≡ down n rank demand x = sum_here g sum x s m c e in
        let fits : leb (sum + demand x) supply ≡ keeps n rank demand supply x = simp (here, c) in
        let later : before rank p x ≡ false = sym (e p l) ∙ f in
        ⊎_elim
        (λ (k : keeps n rank demand supply x ≡ true).
        ⊎_elim
        (λ (i : eqb p x ≡ true). simp (fits ∙ k, i) (sym (ap (keeps n rank demand supply) (eqb-true p x i) ∙ k)))
        (λ (i : eqb p x ≡ false). simp (fits ∙ k, i) (way_walk l w all (sum + demand x) here (simp (i, later))))
        (passed (eqb p x)))
        (λ (k : keeps n rank demand supply x ≡ false). simp (fits ∙ k) (sym (shed_with x c k later)))
        (passed (keeps n rank demand supply x))

-- the walk down the ranking and the sums down to each place keep the same
pub walk_keeps : (n : ℕ) (rank demand : ℕ → ℕ) (supply p : ℕ) → p < n
    → keeps n rank demand supply p ≡ is_in p (walked n rank demand supply)
unfolding walked ranking claims
walk_keeps n rank demand supply p l =
    sym
    (way_walk n rank demand supply p l (way_ranks n rank no_claim (le_refl no_claim)) (λ q e. or_left _ _ e) 0
    (sym (sum_none n demand (λ q. claims rank q && behind rank 0 0 q) (λ q m. simp (behind_none rank q, and-false))))
    (behind_none rank p))
