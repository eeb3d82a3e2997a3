-- The tick that nothing refuses shares the supply as the program asks, where no port had latch 12 before it.
-- Assumes nothing.
use Prim.Native.Nat.{ℕ, ◌+◌, ◌*◌, ◌/◌, ◌%◌, ◌≤◌, ◌<◌}
use mathlib.Core.Path.{◌≡◌, refl, sym, ◌∙◌, ap, ap₂, subst}
use mathlib.Core.Bool.{Bool, true, false, cond, not, ◌&&◌, ◌||◌}
use mathlib.Core.List.{List}
use mathlib.Core.Logic.{◌⊎◌, ⊎_elim}
use native.Mathlib.Omega.{arith}
use lib.Dec.{eqb, ltb}
use lib.ListN.{length, get_or}
use borrow.Author.Tests.{lt-ltb, le-ltb, ltb-true, le-leb, leb-true, eq-eqb, eqb-true, not-true}
use Rattle.lists.specs.Bits.{field, choose}
use Rattle.lists.proofs.Every.{every_at, every_of}
use Rattle.lists.proofs.Places.{side, tabulate_at}
use Rattle.lists.specs.Places.{tabulate}
use Rattle.lists.proofs.Tests.{passed, not_both_lem, and_left, and_right, and_both, or_left, or_right}
use Rattle.lists.proofs.Total.{total_cong}
use Rattle.power.specs.Power.{forced}
use Rattle.power.specs.declared.Power.{Power}
use Rattle.sample.specs.Sample.{sample_at}
use Rattle.class.specs.Class.{budgets, budget_of}
use Rattle.control.specs.Control.{priority_of}
use Rattle.control.specs.declared.Priority.TheVariants.{Unknown, Critical, High, Low}
use Rattle.port.specs.States.{code_of, closed, in_test, is_idle}
use Rattle.port.specs.declared.form.Port.{Port}
use Rattle.settling.specs.Settle.{urgency, settled}
use Rattle.block.specs.Digest.{digest}
use Rattle.share.proofs.Laws.{before_cases, before_total, kept_claims, shed_after, longest, kept_sum_fits}
use Rattle.share.specs.Share.{claims, before, sum_where, keeps, kept_sum}
use Rattle.table.specs.Parts.{port_at}
use Rattle.table.proofs.Laws.{well_count}
use Rattle.table.specs.declared.form.Table.{Table}
use Rattle.cells.specs.Cells.{table_of, port_of, port_holds, is_table}
use Rattle.cells.proofs.CodeLaws.{closed_code, code_again}
use Rattle.cells.specs.Codes.{state_of, latches_of}
use Rattle.cells.proofs.Laws.{table_at}
use Rattle.cells.specs.Lent.{cells_told}
use Rattle.boards.specs.Sharing.{rank_at, claim_at}
use Rattle.passes.specs.OnCells.{tick_on}
use Rattle.passes.specs.Tick.{moved_at, tick}
use Rattle.interface.specs.Statement1C.{first_number, tick_list}
use Rattle.statements.specs.Statement2.{Ticks, moves}
use Rattle.second.specs.Answers.{closed_cell}
use Rattle.second.proofs.Second.{step_control, otherwise, ticked_are, ticked_so, ticked_well, table_before}
use Rattle.second_sharing.proofs.First.{First, first_lowest, first_of}
use Rattle.second_sharing.proofs.Port.{Shares, claim_of, move_claims, move_denies, port_shares}
use Rattle.second_sharing.specs.Shared.{denied_cell, none_denied, urgency_cell, place_cell, claim_cell, first_shed, entered_cell, left_cell, port_right, ports_right, kept_cells, shares_right}

-- ---- the cells of one port, and the port

idle_code : (n : ℕ) → n ≤ 9 → is_idle (state_of n) ≡ eqb n 1
unfolding tabulate
idle_code n h = tabulate_at 10 (λ k. is_idle (state_of k)) (λ k. eqb k 1) refl n (omega arith)

test_code : (n : ℕ) → n ≤ 9 → in_test (state_of n) ≡ eqb n 8
unfolding tabulate
test_code n h = tabulate_at 10 (λ k. in_test (state_of k)) (λ k. eqb k 8) refl n (omega arith)

urgency_code : (n : ℕ) → cond (eqb n 1) 0 (cond (eqb n 2) 1 2) ≡ urgency (choose Unknown Critical High Low n)
urgency_code n = go (eqb n 0) (eqb n 1) (eqb n 2) refl refl refl
  where
    go : (x y z : Bool) → eqb n 0 ≡ x → eqb n 1 ≡ y → eqb n 2 ≡ z → cond y 0 (cond z 1 2) ≡ urgency (cond x Unknown (cond y Critical (cond z High Low)))
    go true y z e f g =
        let no_one : y ≡ false = sym f ∙ ap (λ (k : ℕ). eqb k 1) (eqb-true n 0 e) in
        let no-two : z ≡ false = sym g ∙ ap (λ (k : ℕ). eqb k 2) (eqb-true n 0 e) in
        simp (no_one, no-two)
    go false true z e f g = refl
    go false false true e f g = refl
    go false false false e f g = refl

module _ (l : List ℕ) (is : is_table l ≡ true) (p : ℕ) (h : p < get_or l 0 0) where
  state_small : get_or l (8 + p) 0 ≤ 9
  unfolding is_table port_holds
  state_small = leb-true (get_or l (8 + p) 0) 9 (and_left _ (ltb (get_or l (200 + p) 0) 256) (every_at (get_or l 0 0) (port_holds l) (and_right (eqb (length l) 728) _ is) p h))

  closed_cell_lem : closed_cell l p ≡ closed (port_of l p).state
  unfolding closed_cell port_of
  closed_cell_lem = simp (lt-ltb p (get_or l 0 0) h) (sym (closed_code (get_or l (8 + p) 0)))

  idle_cell : eqb (get_or l (8 + p) 0) 1 ≡ is_idle (port_of l p).state
  unfolding port_of
  idle_cell = sym (idle_code (get_or l (8 + p) 0) state_small)

  test_cell : eqb (get_or l (8 + p) 0) 8 ≡ in_test (port_of l p).state
  unfolding port_of
  test_cell = sym (test_code (get_or l (8 + p) 0) state_small)

  state_cell : get_or l (8 + p) 0 ≡ code_of (port_of l p).state
  unfolding port_of
  state_cell = sym (code_again (get_or l (8 + p) 0) state_small)

  denied_cell_lem : denied_cell l p ≡ (port_of l p).latches.denied
  unfolding denied_cell port_of latches_of
  denied_cell_lem = simp (lt-ltb p (get_or l 0 0) h)

  urgency_cell_lem : urgency_cell l p ≡ urgency (priority_of (port_of l p).control)
  unfolding urgency_cell port_of priority_of field
  urgency_cell_lem = urgency_code (get_or l (56 + p) 0 / 16 % 4)

-- ---- a tick that nothing refuses

twice : (a b : Bool) → (a && (a && b)) ≡ (a && b)
twice true b = refl
twice false b = refl

implied : (a b : Bool) → (a ≡ true → b ≡ true) → (not a || b) ≡ true
implied true b h = h refl
implied false b h = refl

module _ (l block : List ℕ) (figure : ℕ) (zero : first_number (tick_list l block figure) ≡ 0) (none : none_denied l ≡ true) where
  abbrev t : Table
  t = table_of l

  abbrev m : List ℕ
  m = cells_told (tick_on l block figure) l

  abbrev u : Table
  u = (tick t block figure).table

  so : Ticks t block figure u (tick t block figure).answer
  so = ticked_so l block figure zero

  -- the claims: their ranks, their demands, and which are kept
  abbrev R : ℕ → ℕ
  R = rank_at t (moved_at t block)

  abbrev D : ℕ → ℕ
  D p = (claim_at t (moved_at t block) p).0

  abbrev K : ℕ → Bool
  K = keeps 48 R D figure

  before_is : is_table l ≡ true
  before_is = table_before l block figure zero

  after_is : is_table m ≡ true
  after_is = (ticked_are l block figure zero).0

  same_count : get_or m 0 0 ≡ get_or l 0 0
  unfolding table_of
  same_count = ap (λ (v : Table). v.count) (ticked_are l block figure zero).1 ∙ so.same_count

  few : get_or l 0 0 ≤ 48
  unfolding table_of
  few = omega (arith, well_count u (ticked_well l block figure zero), so.same_count)

  port_before : (p : ℕ) → p < 48 → port_at t p ≡ port_of l p
  port_before p h = table_at l p h

  port_after_lem : (p : ℕ) → p < 48 → port_at u p ≡ port_of m p
  port_after_lem p h = ap (λ (v : Table). port_at v p) (sym (ticked_are l block figure zero).1) ∙ table_at m p h

  not_denied : (p : ℕ) → p < get_or l 0 0 → (port_at t p).latches.denied ≡ false
  unfolding none_denied
  not_denied p h =
      ap (λ (x : Port). x.latches.denied) (port_before p (omega (arith, few)))
      ∙ sym (denied_cell_lem l before_is p h)
      ∙ not-true _ (every_at 48 (λ q. not (denied_cell l q)) none p (omega (arith, few)))

  -- what the sharing makes of each port
  settles : (p : ℕ) → p < t.count → Shares (port_at t p) (moves t block p) (R p) (K p) (port_at u p)
  unfolding table_of
  settles p h =
      let mv = moves t block p in
      let s = digest (sample_at block (14 * p)) in
      let first = port_shares (port_at t p) mv (step_control forced (port_at t p) s) (move_denies forced (port_at t p) s (not_denied p h)) (move_claims (port_at t p) (sample_at block (14 * p))) (K p) in
      let then : Shares (port_at t p) mv (R p) (K p) (settled (R p) (K p) mv).port = subst (λ (r : ℕ). Shares (port_at t p) mv r (K p) (settled r (K p) mv).port) (sym (so.ranked p h)) first in
      subst (Shares (port_at t p) mv (R p) (K p)) (sym (so.moved p h ∙ ap (λ (k : Bool). (settled (R p) k mv).port) (so.shared p))) then

  here : (p : ℕ) → p < get_or l 0 0 → Shares (port_of l p) (moves t block p) (R p) (K p) (port_of m p)
  unfolding table_of
  here p h =
      subst (λ (x : Port). Shares x (moves t block p) (R p) (K p) (port_of m p)) (port_before p (omega (arith, few)))
      (subst (Shares (port_at t p) (moves t block p) (R p) (K p)) (port_after_lem p (omega (arith, few))) (settles p h))

  -- a claim is of a port below the count
  claimant : (p : ℕ) → claims R p ≡ true → p < get_or l 0 0
  unfolding claims table_of
  claimant p e =
      ⊎_elim
      (λ (h : p < get_or l 0 0). h)
      (λ (h : get_or l 0 0 ≤ p). absurd (omega (arith, ltb-true (R p) 6 e, so.unclaimed p h)))
      (side p (get_or l 0 0))

  ranked : (p : ℕ) → claims R p ≡ true → R p < 6
  unfolding claims
  ranked p e = ltb-true (R p) 6 e

  kept_claim : (p : ℕ) → K p ≡ true → claims R p ≡ true
  kept_claim p e = kept_claims 48 R D figure p e

  past_claim : (p : ℕ) → get_or l 0 0 ≤ p → claims R p ≡ false
  unfolding claims table_of
  past_claim p h = simp (so.unclaimed p h)

  past_kept : (p : ℕ) → get_or l 0 0 ≤ p → K p ≡ false
  unfolding keeps
  past_kept p h = simp (past_claim p h)

  claimed_kept : (p : ℕ) → (ltb (R p) 6 && K p) ≡ K p
  unfolding keeps claims
  claimed_kept p = twice (ltb (R p) 6) _

  closed_past : (p : ℕ) → get_or l 0 0 ≤ p → closed_cell m p ≡ false
  unfolding closed_cell
  closed_past p h = simp (le-ltb p (get_or m 0 0) (omega (arith, same_count)))

  denied_past : (p : ℕ) → get_or l 0 0 ≤ p → denied_cell m p ≡ false
  unfolding denied_cell
  denied_past p h = simp (le-ltb p (get_or m 0 0) (omega (arith, same_count)))

  -- closed after are those whose claim is kept, and latch 12 have those whose claim is shed
  closed_kept : (p : ℕ) → closed_cell m p ≡ K p
  closed_kept p =
      ⊎_elim
      (λ (h : p < get_or l 0 0). closed_cell_lem m after_is p (omega (arith, same_count)) ∙ (here p h).closed_after ∙ claimed_kept p)
      (λ (h : get_or l 0 0 ≤ p). closed_past p h ∙ sym (past_kept p h))
      (side p (get_or l 0 0))

  denied_shed : (p : ℕ) → denied_cell m p ≡ (claims R p && not (K p))
  unfolding claims
  denied_shed p =
      ⊎_elim
      (λ (h : p < get_or l 0 0). denied_cell_lem m after_is p (omega (arith, same_count)) ∙ (here p h).denied_after)
      (λ (h : get_or l 0 0 ≤ p). denied_past p h ∙ sym (ap (λ (b : Bool). b && not (K p)) (past_claim p h)))
      (side p (get_or l 0 0))

  -- a claim's place and its demand
  place_is : (p : ℕ) → claims R p ≡ true → place_cell l p ≡ 64 * R p + p
  unfolding place_cell
  place_is p e =
      let h = claimant p e in
      ap (λ (k : ℕ). 64 * k + p) (ap₂ (λ (b : Bool) (k : ℕ). cond b 0 3 + k) (closed_cell_lem l before_is p h) (urgency_cell_lem l before_is p h) ∙ sym ((here p h).ranks (ranked p e)))

  claim_is : (p : ℕ) → claims R p ≡ true → D p ≡ claim_cell l m p
  unfolding claim_cell claim_of budget_of port_of table_of
  claim_is p e =
      let h = claimant p e in
      ap (λ (x : Power). x.0) (so.claimed p h) ∙ (here p h).claims (ranked p e)
      ∙ sym (ap₂ (λ (b c : Bool). cond b (get_or l (104 + p) 0) (cond c 154 (get_or budgets (get_or m (152 + p) 0) 0))) (closed_cell_lem l before_is p h) (idle_cell l before_is p h))

  draws_is : (p : ℕ) → K p ≡ true → get_or m (104 + p) 0 ≡ D p
  unfolding port_of table_of
  draws_is p e =
      let c = kept_claim p e in
      let h = claimant p c in
      (here p h).draws (ranked p c) e ∙ sym (ap (λ (x : Power). x.0) (so.claimed p h))

  -- where it goes
  entered_so : (p : ℕ) → K p ≡ true → entered_cell l m p ≡ true
  unfolding entered_cell
  entered_so p e =
      let c = kept_claim p e in
      let h = claimant p c in
      otherwise (closed_cell l p) _
      (λ o.
      eq-eqb _ _
      (state_cell m after_is p (omega (arith, same_count))
      ∙ (here p h).enters (ranked p c) e (sym (closed_cell_lem l before_is p h) ∙ o)
      ∙ sym (ap (λ (b : Bool). cond b 8 5) (idle_cell l before_is p h))))

  left_so : (p : ℕ) → claims R p ≡ true → K p ≡ false → left_cell l m p ≡ true
  unfolding left_cell
  left_so p c e =
      let h = claimant p c in
      eq-eqb _ _
      (state_cell m after_is p (omega (arith, same_count))
      ∙ (here p h).leaves (ranked p c) e
      ∙ sym (ap (λ (b : Bool). cond b 9 1) (test_cell l before_is p h)))

  -- the sum of what is kept
  sum_is : kept_cells m ≡ kept_sum 48 R D figure
  unfolding kept_cells kept_sum sum_where
  sum_is =
      total_cong 48 (λ p. cond (closed_cell m p) (get_or m (104 + p) 0) 0) (λ p. cond (K p) (D p) 0)
      (λ p h. ap (λ (b : Bool). cond b (get_or m (104 + p) 0) 0) (closed_kept p) ∙ drawn (K p) (draws_is p))
    where
      drawn : (b : Bool) {x y : ℕ} → (b ≡ true → x ≡ y) → cond b x 0 ≡ cond b y 0
      drawn true e = e refl
      drawn false e = refl

  shed_claims : (p : ℕ) → denied_cell m p ≡ true → claims R p ≡ true
  shed_claims p e = and_left (claims R p) (not (K p)) (sym (denied_shed p) ∙ e)

  shed_not_kept : (p : ℕ) → denied_cell m p ≡ true → K p ≡ false
  shed_not_kept p e = not-true (K p) (and_right (claims R p) (not (K p)) (sym (denied_shed p) ∙ e))

  -- of two claims the one ranked before has the lower place
  sooner : (p q : ℕ) → p < 48 → q < 48 → claims R p ≡ true → claims R q ≡ true → before R p q ≡ true → place_cell l p < place_cell l q
  sooner p q hp hq cp cq b =
      ⊎_elim
      (λ (h : R p < R q). omega (arith, place_is p cp, place_is q cq))
      (λ (h : (R p ≡ R q) × (p < q)). omega (arith, place_is p cp, place_is q cq))
      (before_cases R p q b)

  kept_first : (p : ℕ) → p < 48 → K p ≡ true → place_cell l p < first_shed l m 48
  kept_first p h e =
      let c = kept_claim p e in
      ⊎_elim
      (λ (f : first_shed l m 48 ≡ 384). omega (arith, place_is p c, ranked p c))
      (λ (x : First l m 48).
      let q = x.at in
      let cq = shed_claims q x.denied in
      let kq = shed_not_kept q x.denied in
      ⊎_elim
      (λ (i : p ≡ q). absurd (not_both_lem (K p) e (ap K i ∙ kq)))
      (λ (o : (before R p q ≡ true) ⊎ (before R q p ≡ true)).
      ⊎_elim
      (λ (b : before R p q ≡ true). omega (arith, sooner p q h x.below c cq b, x.is))
      (λ (b : before R q p ≡ true). absurd (not_both_lem (K p) e (shed_after 48 R D figure q p cq kq b)))
      o)
      (before_total R p q))
      (first_of l m 48)

  -- the first that is shed did not fit
  first_over : First l m 48 → figure < kept_cells m + claim_cell l m (first_shed l m 48 % 64)
  first_over x =
      let q = x.at in
      let c = shed_claims q x.denied in
      let here-q : first_shed l m 48 % 64 ≡ q = omega (arith, x.is, place_is q c, x.below) in
      let over : figure < kept_sum 48 R D figure + D q = longest 48 R D figure q x.below c (shed_not_kept q x.denied) (λ r h cr b. all_before r h cr b) in
      omega (arith, over, sum_is, claim_is q c, ap (claim_cell l m) here-q)
    where
      all_before : (r : ℕ) → r < 48 → claims R r ≡ true → before R r x.at ≡ true → K r ≡ true
      all_before r h cr b =
          ⊎_elim
          (λ (e : K r ≡ true). e)
          (λ (e : K r ≡ false).
          let lowest : first_shed l m 48 ≤ place_cell l r = first_lowest l m 48 r h (denied_shed r ∙ simp (cr, e)) in
          absurd (omega (arith, lowest, sooner r x.at h x.below cr (shed_claims x.at x.denied) b, x.is)))
          (passed (K r))

  ports_so : ports_right l m (first_shed l m 48) ≡ true
  unfolding ports_right port_right
  ports_so =
      every_of 48 _
      (λ p h.
      and_both _ _
      (implied (closed_cell m p) _ (λ e. let k = sym (closed_kept p) ∙ e in simp (lt-ltb _ _ (kept_first p h k), eq-eqb _ _ (draws_is p k ∙ claim_is p (kept_claim p k)), entered_so p k)))
      (implied (denied_cell m p) _ (λ e. left_so p (shed_claims p e) (shed_not_kept p e))))

  fits : kept_cells m ≤ figure
  fits = omega (arith, sum_is, kept_sum_fits 48 R D figure)

  pub tick_shares : shares_right l m figure ≡ true
  unfolding shares_right
  tick_shares =
      and_both _ _ ports_so
      (and_both _ _ (le-leb _ _ fits)
      (⊎_elim
      (λ (f : first_shed l m 48 ≡ 384). or_left _ _ (eq-eqb _ _ f))
      (λ (x : First l m 48). or_right (eqb (first_shed l m 48) 384) _ (lt-ltb _ _ (first_over x)))
      (first_of l m 48)))

-- what the program has in hand after the tick
pub shares_in : (l block : List ℕ) (figure : ℕ) (after : List ℕ) → after ≡ cells_told (tick_on l block figure) l → first_number (tick_list l block figure) ≡ 0
    → none_denied l ≡ true → shares_right l after figure ≡ true
shares_in l block figure after e zero none = ap (λ (a : List ℕ). shares_right l a figure) e ∙ tick_shares l block figure zero none
