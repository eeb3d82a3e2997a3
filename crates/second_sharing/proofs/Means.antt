-- What the tests mean, of any core: of any cells before and after, if they pass the tests, then the ports that are kept are those that document
-- 01's walk down the ranking keeps of all that were kept or shed. So a weaker test is refused here, also where code and definition agree on it.
-- Assumes nothing.
use Prim.Native.Nat.{ℕ, ◌+◌, ◌*◌, ◌/◌, ◌%◌, ◌≤◌, ◌<◌}
use mathlib.Core.Path.{◌≡◌, refl, sym, ◌∙◌, ap}
use mathlib.Core.Bool.{Bool, true, false, cond, not, ◌&&◌, ◌||◌}
use mathlib.Core.List.{List}
use mathlib.Core.Logic.{◌⊎◌, ⊎_elim}
use native.Mathlib.Nat.{le_trans, le_of_eq}
use native.Mathlib.Omega.{arith}
use lib.Dec.{eqb, leb, ltb}
use lib.ListN.{get_or}
use borrow.Author.Tests.{lt-ltb, lt-leb, ltb-true, leb-true, eqb-true}
use Rattle.lists.proofs.Every.{every_at}
use Rattle.lists.proofs.Tests.{passed, and_left, and_right, and_both, or_left, or_right, or_either}
use Rattle.lists.proofs.Tests.{choice}
use Rattle.lists.proofs.Total.{total_cong}
use Rattle.share.proofs.Laws.{before_cases, before_total, met_cases, met_claims, sum_less, fits_kept, down_to, shed_after}
use Rattle.share.specs.Share.{claims, before, met, sum_where, down, keeps}
use Rattle.share.specs.Walk.{walked, is_in}
use Rattle.share.proofs.WalkLaws.{walk_keeps}
use Rattle.second.specs.Answers.{closed_cell}
use Rattle.second_sharing.proofs.First.{First, first_lowest, first_of}
use Rattle.second_sharing.specs.Shared.{denied_cell, urgency_cell, place_cell, claim_cell, first_shed, entered_cell, left_cell, port_right, ports_right, kept_cells, shares_right}

-- the rank of a port that was kept or shed; any other claimed nothing
unfoldable pub rank_cell : List ℕ → List ℕ → ℕ → ℕ
rank_cell l m p = cond (closed_cell m p || denied_cell m p) (cond (closed_cell l p) 0 3 + urgency_cell l p) 6

abbrev BelowThree : ℕ → Type 0
BelowThree k = ltb k 3 ≡ true

urgency_small : (l : List ℕ) (p : ℕ) → BelowThree (urgency_cell l p)
unfolding urgency_cell
urgency_small l p =
    let priority = get_or l (56 + p) 0 / 16 % 4 in
    choice BelowThree (eqb priority 1) _ _ refl (choice BelowThree (eqb priority 2) _ _ refl refl)

rank_small : (l : List ℕ) (p : ℕ) → cond (closed_cell l p) 0 3 + urgency_cell l p < 6
rank_small l p = omega (arith, kind, ltb-true (urgency_cell l p) 3 (urgency_small l p))
  where
    kind : cond (closed_cell l p) 0 3 ≤ 3
    kind = choice (λ (k : ℕ). k ≤ 3) (closed_cell l p) 0 3 (omega arith) (omega arith)

holds_then : (a b : Bool) → a ≡ true → (not a || b) ≡ true → b ≡ true
holds_then a b e f = simp e at f

module _ (l m : List ℕ) where
  claims_is : (p : ℕ) → claims (rank_cell l m) p ≡ (closed_cell m p || denied_cell m p)
  unfolding claims rank_cell
  claims_is p = go (closed_cell m p || denied_cell m p)
    where
      go : (b : Bool) → ltb (cond b (cond (closed_cell l p) 0 3 + urgency_cell l p) 6) 6 ≡ b
      go true = lt-ltb _ _ (rank_small l p)
      go false = refl

  -- of two claims the one with the lower place is ranked before, and only that one
  place_is : (p : ℕ) → claims (rank_cell l m) p ≡ true → place_cell l p ≡ 64 * rank_cell l m p + p
  unfolding place_cell rank_cell
  place_is p e = let c : (closed_cell m p || denied_cell m p) ≡ true = sym (claims_is p) ∙ e in simp c

  sooner : (p q : ℕ) → p < 48 → q < 48 → claims (rank_cell l m) p ≡ true → claims (rank_cell l m) q ≡ true → before (rank_cell l m) p q ≡ true → place_cell l p < place_cell l q
  sooner p q hp hq cp cq b =
      ⊎_elim
      (λ (h : rank_cell l m p < rank_cell l m q). omega (arith, place_is p cp, place_is q cq))
      (λ (h : (rank_cell l m p ≡ rank_cell l m q) × (p < q)). omega (arith, place_is p cp, place_is q cq))
      (before_cases (rank_cell l m) p q b)

module _ (l m : List ℕ) (figure : ℕ) (right : shares_right l m figure ≡ true) where
  abbrev R : ℕ → ℕ
  R = rank_cell l m

  abbrev D : ℕ → ℕ
  D = claim_cell l m

  abbrev F : ℕ
  F = first_shed l m 48

  -- what the tests say of one port
  port_right_lem : (p : ℕ) → p < 48 → port_right l m F p ≡ true
  unfolding shares_right ports_right
  port_right_lem p h = every_at 48 (port_right l m F) (and_left _ (leb (kept_cells m) figure && (eqb F 384 || ltb figure (kept_cells m + claim_cell l m (F % 64)))) right) p h

  kept_right : (p : ℕ) → p < 48 → closed_cell m p ≡ true → ((ltb (place_cell l p) F && eqb (get_or m (104 + p) 0) (D p)) && entered_cell l m p) ≡ true
  unfolding port_right
  kept_right p h e = holds_then (closed_cell m p) _ e (and_left _ (not (denied_cell m p) || left_cell l m p) (port_right_lem p h))

  kept_first : (p : ℕ) → p < 48 → closed_cell m p ≡ true → place_cell l p < F
  kept_first p h e = ltb-true _ _ (and_left _ (eqb (get_or m (104 + p) 0) (D p)) (and_left _ (entered_cell l m p) (kept_right p h e)))

  kept_draws : (p : ℕ) → p < 48 → closed_cell m p ≡ true → get_or m (104 + p) 0 ≡ D p
  kept_draws p h e = eqb-true _ _ (and_right (ltb (place_cell l p) F) _ (and_left _ (entered_cell l m p) (kept_right p h e)))

  -- and of the sums
  sums : (leb (kept_cells m) figure && (eqb F 384 || ltb figure (kept_cells m + D (F % 64)))) ≡ true
  unfolding shares_right
  sums = and_right (ports_right l m F) _ right

  fits : kept_cells m ≤ figure
  fits = leb-true (kept_cells m) figure (and_left (leb (kept_cells m) figure) (eqb F 384 || ltb figure (kept_cells m + D (F % 64))) sums)

  sum_is : kept_cells m ≡ sum_where 48 D (closed_cell m)
  unfolding kept_cells sum_where
  sum_is = total_cong 48 (λ p. cond (closed_cell m p) (get_or m (104 + p) 0) 0) (λ p. cond (closed_cell m p) (D p) 0) (λ p h. drawn (closed_cell m p) (kept_draws p h))
    where
      drawn : (b : Bool) {x y : ℕ} → (b ≡ true → x ≡ y) → cond b x 0 ≡ cond b y 0
      drawn true e = e refl
      drawn false e = refl

  closed_claims : (p : ℕ) → closed_cell m p ≡ true → claims R p ≡ true
  closed_claims p e = claims_is l m p ∙ or_left (closed_cell m p) (denied_cell m p) e

  denied_claims : (p : ℕ) → denied_cell m p ≡ true → claims R p ≡ true
  denied_claims p e = claims_is l m p ∙ or_right (closed_cell m p) (denied_cell m p) e

  rank_at_lem : (p : ℕ) → claims R p ≡ true → R p < 6
  unfolding claims
  rank_at_lem p c = ltb-true (R p) 6 c

  without_claim : (p : ℕ) → claims R p ≡ false → keeps 48 R D figure p ≡ false
  unfolding keeps
  without_claim p e = simp e

  -- what comes on the way down to a kept port is kept
  way_kept : (p r : ℕ) → p < 48 → r < 48 → closed_cell m p ≡ true → met R p r ≡ true → closed_cell m r ≡ true
  way_kept p r hp hr e f =
      let cr = met_claims R p r f in
      ⊎_elim
      (λ (c : closed_cell m r ≡ true). c)
      (λ (d : denied_cell m r ≡ true).
      ⊎_elim
      (λ (i : r ≡ p). rw i e)
      (λ (b : before R r p ≡ true).
      absurd (omega (arith, first_lowest l m 48 r hr d, sooner l m r p hr hp cr (closed_claims p e) b, kept_first p hp e)))
      (met_cases R p r f))
      (or_either (closed_cell m r) (denied_cell m r) (sym (claims_is l m r) ∙ cr))

  keeps_closed : (p : ℕ) → p < 48 → closed_cell m p ≡ true → keeps 48 R D figure p ≡ true
  unfolding down
  keeps_closed p h e =
      fits_kept 48 R D figure p (closed_claims p e)
      (le_trans (sum_less 48 D (met R p) (closed_cell m) (λ r hr f. way_kept p r h hr e f)) (le_trans (le_of_eq (sym sum_is)) fits))

  -- a kept port is ranked before the first that is shed
  kept_before : (x : First l m 48) (r : ℕ) → r < 48 → closed_cell m r ≡ true → before R r x.at ≡ true
  kept_before x r h e =
      let q = x.at in
      let cq = denied_claims q x.denied in
      ⊎_elim
      (λ (i : r ≡ q). absurd (omega (arith, kept_first r h e, x.is, ap (place_cell l) i)))
      (λ (o : (before R r q ≡ true) ⊎ (before R q r ≡ true)).
      ⊎_elim
      (λ (b : before R r q ≡ true). b)
      (λ (b : before R q r ≡ true). absurd (omega (arith, kept_first r h e, x.is, sooner l m q r x.below h cq (closed_claims r e) b)))
      o)
      (before_total R r q)

  first_over : (x : First l m 48) → figure < kept_cells m + D x.at
  first_over x =
      let q = x.at in
      let c = denied_claims q x.denied in
      let low : place_cell l q < 384 = omega (arith, place_is l m q c, rank_at_lem q c, x.below) in
      let here : F % 64 ≡ q = omega (arith, x.is, place_is l m q c, x.below) in
      ⊎_elim
      (λ (e : eqb F 384 ≡ true). absurd (omega (arith, eqb-true F 384 e, x.is)))
      (λ (e : ltb figure (kept_cells m + D (F % 64)) ≡ true). omega (arith, ltb-true figure (kept_cells m + D (F % 64)) e, ap D here))
      (or_either (eqb F 384) _ (and_right (leb (kept_cells m) figure) _ sums))

  -- so it is not kept by the walk, and neither is what comes after it
  first_sheds : (x : First l m 48) → keeps 48 R D figure x.at ≡ false
  unfolding keeps
  first_sheds x =
      let q = x.at in
      let c = denied_claims q x.denied in
      let more : sum_where 48 D (closed_cell m) ≤ sum_where 48 D (λ r. claims R r && before R r q) =
      sum_less 48 D (closed_cell m) (λ r. claims R r && before R r q) (λ r h e. and_both _ _ (closed_claims r e) (kept_before x r h e)) in
      let over : figure < down 48 R D q = omega (arith, first_over x, sum_is, more, down_to 48 R D q x.below c) in
      simp (c, lt-leb (down 48 R D q) figure over)

  sheds_denied : (p : ℕ) → p < 48 → denied_cell m p ≡ true → keeps 48 R D figure p ≡ false
  sheds_denied p h d =
      let c = denied_claims p d in
      ⊎_elim
      (λ (f : F ≡ 384). absurd (omega (arith, first_lowest l m 48 p h d, place_is l m p c, rank_at_lem p c)))
      (λ (x : First l m 48).
      let q = x.at in
      let cq = denied_claims q x.denied in
      ⊎_elim
      (λ (i : p ≡ q). ap (keeps 48 R D figure) i ∙ first_sheds x)
      (λ (o : (before R p q ≡ true) ⊎ (before R q p ≡ true)).
      ⊎_elim
      (λ (b : before R p q ≡ true). absurd (omega (arith, first_lowest l m 48 p h d, x.is, sooner l m p q h x.below c cq b)))
      (λ (b : before R q p ≡ true). shed_after 48 R D figure q p cq (first_sheds x) b)
      o)
      (before_total R p q))
      (first_of l m 48)

  kept_are : (p : ℕ) → p < 48 → closed_cell m p ≡ keeps 48 R D figure p
  kept_are p h =
      ⊎_elim
      (λ (e : closed_cell m p ≡ true). e ∙ sym (keeps_closed p h e))
      (λ (e : closed_cell m p ≡ false).
      ⊎_elim
      (λ (d : denied_cell m p ≡ true). e ∙ sym (sheds_denied p h d))
      (λ (d : denied_cell m p ≡ false). e ∙ sym (without_claim p (claims_is l m p ∙ simp (e, d))))
      (passed (denied_cell m p)))
      (passed (closed_cell m p))

  -- "Going down the ranking, claims are kept while the sum of demands is at most the supply. The first that doesn't fit and all after it are shed"
  pub shares_mean : (p : ℕ) → p < 48 → closed_cell m p ≡ is_in p (walked 48 (rank_cell l m) (claim_cell l m) figure)
  shares_mean p h = kept_are p h ∙ walk_keeps 48 R D figure p h

  -- and no port is kept and shed
  pub shed_mean : (p : ℕ) → p < 48 → denied_cell m p ≡ true → closed_cell m p ≡ false
  shed_mean p h d = kept_are p h ∙ sheds_denied p h d
