-- What is proved of specs/Second.
-- Assumes nothing.
use Prim.Native.Nat.{ℕ, ◌+◌, ◌-◌, ◌*◌, ◌%◌, ◌≤◌, ◌<◌}
use mathlib.Core.Path.{◌≡◌, refl, sym, ◌∙◌, ap, ap₂, subst}
use mathlib.Core.Bool.{Bool, true, false, cond, not, ◌&&◌, ◌||◌, false≢true}
use mathlib.Core.List.{List, ◌∷◌}
use mathlib.Core.Logic.{⊎_elim}
use native.Mathlib.Omega.{arith}
use lib.Dec.{eqb, leb, ltb}
use lib.ListN.{get_or}
use borrow.Author.Tests.{lt-ltb, le-ltb, le-leb, lt-leb, eq-eqb, eqb-true, eqb-false}
use Rattle.lists.specs.Bits.{bit, field, one, choose}
use Rattle.lists.specs.Count.{count}
use Rattle.lists.proofs.Count.{count_either}
use Rattle.lists.proofs.Every.{every_of}
use Rattle.lists.proofs.Places.{side}
use Rattle.lists.proofs.Tests.{choice}
use Rattle.lists.proofs.Total.{total_cong, total_less}
use Rattle.std.specs.Prelude.{Result, Ok, Err}
use Rattle.sizes.proofs.Refused.{numbered}
use Rattle.sizes.specs.declared.refusals.Refusal.{Refusal}
use Rattle.power.specs.Power.{forced, tenths}
use Rattle.power.specs.declared.Power.{Power}
use Rattle.sample.specs.Sample.{sample_at}
use Rattle.control.specs.Control.{pair_of}
use Rattle.control.specs.declared.Pair.TheVariants.{Neither, A, B, Both}
use Rattle.port.specs.Entry.{enter}
use Rattle.port.specs.States.{closed, in_test}
use Rattle.port.specs.declared.form.Moved.{Moved}
use Rattle.port.specs.declared.form.Port.{Port}
use Rattle.port.specs.declared.form.Reading.{Reading}
use Rattle.port.specs.declared.form.State.{State}
use Rattle.port.specs.declared.form.State.TheVariants.{Disabled, Idle, Detecting, Backoff, Classifying, PowerUp, PowerOn, ErrorDelay, TestMode, TestError}
use Rattle.outcomes.proofs.Outcomes.{step_outcome}
use Rattle.diagram.specs.Step.{step}
use Rattle.settling.specs.Settle.{granted, shed, settled}
use Rattle.block.specs.Digest.{digest}
use Rattle.table.specs.Drawn.{closed_at}
use Rattle.table.specs.Parts.{port_at}
use Rattle.table.proofs.Laws.{well_count}
use Rattle.table.specs.WellMade.{well_made}
use Rattle.table.specs.declared.form.Closed.{Closed}
use Rattle.table.specs.declared.form.Table.{Table}
use Rattle.table.specs.Parts.{Told}
use Rattle.cells.specs.Cells.{table_of, port_of, is_table, is_of_port}
use Rattle.cells.proofs.CodeLaws.{closed_code}
use Rattle.cells.specs.Codes.{state_of}
use Rattle.cells.proofs.Laws.{table_at}
use Rattle.cells.specs.Lent.{cells_told}
use Rattle.cells.proofs.Round.{table_long}
use Rattle.boards.proofs.MaskLaws.{closed_bits}
use Rattle.boards.specs.Masks.{names_a, names_b, mask_a, mask_b}
use Rattle.boards.specs.Sharing.{rank_at, kept_at}
use Rattle.passes.specs.OnCells.{tick_on}
use Rattle.passes.specs.Tick.{moved_at, tick_refusals, tick}
use Rattle.ipaqsuni.specs.Outcome.{number_of}
use Rattle.interface.specs.Laws.{Are}
use Rattle.interface.proofs.Laws.{next_call, zero_left, calls, untouched}
use Rattle.interface.specs.Statement1C.{first_number, tick_list}
use Rattle.interface.proofs.Statement1C.{statement_1_c}
use Rattle.statements.specs.History.{accepted}
use Rattle.statements.proofs.StaysWellMade.{tick_well}
use Rattle.statements.proofs.Reached.{Ran, Stopped, tick_told_lem, in_range}
use Rattle.statements.specs.Statement2.{Ticks, moves}
use Rattle.statements.proofs.Statement2.{statement_2}
use Rattle.second.specs.Answers.{agree, closed_cell, named_cell, bits_right, apart, answer_right}
use Rattle.second.specs.Untouched.{may_change, rest_kept}
use Rattle.second.specs.Second.{tick_right}

-- ---- no move and no settling changes a control word

pub step_control : (claim : Power) (p : Port) (r : Reading) → (step claim p r).port.control ≡ p.control
unfolding enter
step_control claim p r =
    step_outcome claim p r (λ (m : Moved). m.port.control ≡ p.control)
    (record {
      disabled = refl;
      yields = refl;
      stays = refl;
      idle = refl;
      detects = λ a. refl;
      tests = λ a. refl;
      valid = λ a b. refl;
      invalid = λ a. refl;
      backs_off = λ a. refl;
      classed = λ a k d b. refl;
      over_current = λ a b. refl;
      disagrees = λ a b. refl;
      short = λ a. refl;
      overload = λ a. refl;
      settles = λ a. refl;
      absent = λ a. refl;
    })

granted_control : (s : State) (p : Port) → (granted s p).control ≡ p.control
unfolding granted enter
granted_control Disabled p = refl
granted_control Idle p = refl
granted_control Detecting p = refl
granted_control Backoff p = refl
granted_control Classifying p = refl
granted_control PowerUp p = refl
granted_control PowerOn p = refl
granted_control ErrorDelay p = refl
granted_control TestMode p = refl
granted_control TestError p = refl

settled_control : (rank : ℕ) (kept : Bool) (m : Moved) → (settled rank kept m).port.control ≡ m.port.control
unfolding settled shed enter
settled_control rank kept m =
    let Same : Port → Type 0 = λ p. p.control ≡ m.port.control in
    choice (λ (x : Moved). x.port.control ≡ m.port.control) (leb 6 rank) _ _ refl
    (choice (λ (x : Moved). x.port.control ≡ m.port.control) kept _ _
    (choice Same m.asks (granted m.port.state m.port) m.port (granted_control m.port.state m.port) refl)
    (choice Same (in_test m.port.state) (enter TestError m.port) (enter Idle m.port) refl refl))

-- ---- small tests

first_fails : (b : Bool) (rs : List (ℕ × Bool)) → first_number ((13, not b) ∷ rs) ≡ 0 → b ≡ true
first_fails true rs e = refl
first_fails false rs e = absurd (omega arith)

accepts : (c : Result Closed Refusal) → number_of c ≡ 0 → accepted c ≡ true
accepts (Ok x) e = refl
accepts (Err k) e = absurd (numbered k e)

names_a_lem : (n : ℕ) → names_a (choose Neither A B Both n) ≡ eqb n 1
names_a_lem n = go (eqb n 0) (eqb n 1) (eqb n 2) refl refl
  where
    go : (x y z : Bool) → eqb n 0 ≡ x → eqb n 1 ≡ y → names_a (cond x Neither (cond y A (cond z B Both))) ≡ y
    go true y z e f = subst (λ (k : ℕ). eqb k 1 ≡ y) (eqb-true n 0 e) f
    go false true z e f = refl
    go false false true e f = refl
    go false false false e f = refl

names_b_lem : (n : ℕ) → names_b (choose Neither A B Both n) ≡ eqb n 2
names_b_lem n = go (eqb n 0) (eqb n 1) (eqb n 2) refl refl refl
  where
    go : (x y z : Bool) → eqb n 0 ≡ x → eqb n 1 ≡ y → eqb n 2 ≡ z → names_b (cond x Neither (cond y A (cond z B Both))) ≡ z
    go true y z e f g = subst (λ (k : ℕ). eqb k 2 ≡ z) (eqb-true n 0 e) g
    go false true z e f g = subst (λ (k : ℕ). eqb k 2 ≡ z) (eqb-true n 1 f) g
    go false false true e f g = refl
    go false false false e f g = refl

not_one_and_two : (c : Bool) (n : ℕ) → ((c && eqb n 1) && (c && eqb n 2)) ≡ false
not_one_and_two false n = refl
not_one_and_two true n = go (eqb n 1) refl
  where
    go : (x : Bool) → eqb n 1 ≡ x → (x && eqb n 2) ≡ false
    go true e = subst (λ (k : ℕ). eqb k 2 ≡ false) (sym (eqb-true n 1 e)) refl
    go false e = refl

agree_self : (x : Bool) → agree x x ≡ true
agree_self true = refl
agree_self false = refl

pub otherwise : (a b : Bool) → (a ≡ false → b ≡ true) → (a || b) ≡ true
otherwise true b h = refl
otherwise false b h = h refl

module _ (l block : List ℕ) (figure : ℕ) (zero : first_number (tick_list l block figure) ≡ 0) where
  -- ---- a tick that nothing refuses

  abbrev t : Table
  t = table_of l

  abbrev r : Told (Result Closed Refusal)
  r = tick_on l block figure

  abbrev m : List ℕ
  m = cells_told r l

  abbrev u : Table
  u = (tick t block figure).table

  is : is_table l ≡ true
  is = first_fails (is_table l) (tick_refusals (table_of l) block figure) zero

  same : r ≡ tick t block figure
  unfolding tick_on
  same = next_call t l (is, refl) (λ v. tick v block figure) _

  number : number_of r.answer ≡ 0
  number = statement_1_c.tick l block figure ∙ zero

  runs : accepted (tick t block figure).answer ≡ true
  runs = subst (λ (x : Told (Result Closed Refusal)). accepted x.answer ≡ true) same (accepts r.answer number)

  are : Are u m
  are = subst (λ (x : Told (Result Closed Refusal)). Are x.table m) same (zero_left r.answer r.table m (calls.tick l block figure) number)

  so : Ticks t block figure u (tick t block figure).answer
  so = statement_2.ticks t block figure runs

  well : well_made u ≡ true
  well =
      ⊎_elim
      (λ (x : Stopped t (tick t block figure)). absurd (false≢true (sym x.answer ∙ runs)))
      (λ (x : Ran t block figure (tick t block figure)). rw x.table (tick_well t block (tenths figure) x.well (in_range figure x.figure_in_range)))
      (tick_told_lem t block figure)

  -- for whoever says more of such a tick
  pub ticked_are : Are (tick (table_of l) block figure).table (cells_told (tick_on l block figure) l)
  ticked_are = are

  pub ticked_so : Ticks (table_of l) block figure (tick (table_of l) block figure).table (tick (table_of l) block figure).answer
  ticked_so = so

  pub ticked_well : well_made (tick (table_of l) block figure).table ≡ true
  ticked_well = well

  pub table_before : is_table l ≡ true
  table_before = is

  -- the cells after are the table after
  count_cell_lem : u.count ≡ get_or m 0 0
  unfolding table_of
  count_cell_lem = ap (λ (v : Table). v.count) (sym are.1)

  stored : get_or m 1 0 ≡ figure
  unfolding table_of
  stored = ap (λ (v : Table). v.supply.0) are.1 ∙ ap (λ (x : Power). x.0) so.stored

  state_cell : (p : ℕ) → p < 48 → (port_at u p).state ≡ state_of (get_or m (8 + p) 0)
  unfolding port_of
  state_cell p h = ap (λ (v : Table). (port_at v p).state) (sym are.1) ∙ ap (λ (x : Port). x.state) (table_at m p h)

  control_cell : (p : ℕ) → p < 48 → (port_at u p).control ≡ get_or m (56 + p) 0
  unfolding port_of
  control_cell p h = ap (λ (v : Table). (port_at v p).control) (sym are.1) ∙ ap (λ (x : Port). x.control) (table_at m p h)

  control_before : (p : ℕ) → p < 48 → (port_at t p).control ≡ get_or l (56 + p) 0
  unfolding port_of
  control_before p h = ap (λ (x : Port). x.control) (table_at l p h)

  closed_here : (p : ℕ) → p < 48 → closed_at u p ≡ closed_cell m p
  unfolding closed_at closed_cell
  closed_here p h = ap₂ ◌&&◌ (ap (ltb p) count_cell_lem) (ap closed (state_cell p h) ∙ closed_code (get_or m (8 + p) 0))

  closed_past : (p : ℕ) → 48 ≤ p → closed_cell m p ≡ false
  unfolding closed_cell
  closed_past p h = simp (le-ltb p (get_or m 0 0) (omega (arith, count_cell_lem, well_count u well)))

  -- ---- the masks
  bit_a : (p : ℕ) → bit p (mask_a u) ≡ (closed_cell m p && eqb (named_cell m p) 1)
  unfolding pair_of field named_cell
  bit_a p =
      ⊎_elim
      (λ (h : p < 48). so.bit_a p h ∙ ap₂ ◌&&◌ (closed_here p h) (ap (λ (w : ℕ). names_a (pair_of w)) (control_cell p h) ∙ names_a_lem (named_cell m p)))
      (λ (h : 48 ≤ p). so.no_bit_a p h ∙ sym (simp (closed_past p h)))
      (side p 48)

  bit_b : (p : ℕ) → bit p (mask_b u) ≡ (closed_cell m p && eqb (named_cell m p) 2)
  unfolding pair_of field named_cell
  bit_b p =
      ⊎_elim
      (λ (h : p < 48). so.bit_b p h ∙ ap₂ ◌&&◌ (closed_here p h) (ap (λ (w : ℕ). names_b (pair_of w)) (control_cell p h) ∙ names_b_lem (named_cell m p)))
      (λ (h : 48 ≤ p). so.no_bit_b p h ∙ sym (simp (closed_past p h)))
      (side p 48)

  apart_at : (p : ℕ) → (bit p (mask_a u) && bit p (mask_b u)) ≡ false
  apart_at p = ap₂ ◌&&◌ (bit_a p) (bit_b p) ∙ not_one_and_two (closed_cell m p) (named_cell m p)

  right_a : bits_right m (mask_a u) 1 ≡ true
  unfolding bits_right
  right_a = every_of 64 _ (λ p h. ap (λ (x : Bool). agree x (closed_cell m p && eqb (named_cell m p) 1)) (bit_a p) ∙ agree_self (closed_cell m p && eqb (named_cell m p) 1))

  right_b : bits_right m (mask_b u) 2 ≡ true
  unfolding bits_right
  right_b = every_of 64 _ (λ p h. ap (λ (x : Bool). agree x (closed_cell m p && eqb (named_cell m p) 2)) (bit_b p) ∙ agree_self (closed_cell m p && eqb (named_cell m p) 2))

  are_apart : apart (mask_a u) (mask_b u) ≡ true
  unfolding apart
  are_apart = every_of 64 _ (λ p h. ap not (apart_at p))

  counted : count 64 (λ p. bit p (mask_a u)) + count 64 (λ p. bit p (mask_b u)) ≡ count 48 (closed_at u)
  unfolding count
  counted =
      count_either 64 (λ p. bit p (mask_a u)) (λ p. bit p (mask_b u)) apart_at
      ∙ total_less 48 64 (λ p. one (bit p (mask_a u) || bit p (mask_b u))) (omega arith) (λ p h. simp (so.no_bit_a p h, so.no_bit_b p h))
      ∙ total_cong 48 (λ p. one (bit p (mask_a u) || bit p (mask_b u))) (λ p. one (closed_at u p)) (λ p h. ap one (closed_bits u well p h))

  right : answer_right m r.answer ≡ true
  unfolding answer_right
  right = ap (λ (x : Told (Result Closed Refusal)). answer_right m x.answer) same ∙ ap (answer_right m) so.answers ∙ simp (are_apart, right_a, right_b, eq-eqb _ _ counted)

  -- ---- the rest
  count_is : r.table.count ≡ get_or l 0 0
  unfolding table_of
  count_is = ap (λ (x : Told (Result Closed Refusal)). x.table.count) same ∙ so.same_count

  moved_control : (p : ℕ) → p < t.count → (port_at u p).control ≡ (port_at t p).control
  moved_control p h =
      ap (λ (x : Port). x.control) (so.moved p h)
      ∙ settled_control (rank_at t (moved_at t block) p) (kept_at t (moved_at t block) (tenths figure) p) (moves t block p)
      ∙ step_control forced (port_at t p) (digest (sample_at block (14 * p)))

  kept_control : (p : ℕ) → p < 48 → get_or m (56 + p) 0 ≡ get_or l (56 + p) 0
  kept_control p h =
      sym (control_cell p h)
      ∙ ⊎_elim (λ (a : p < t.count). moved_control p a) (λ (a : t.count ≤ p). ap (λ (x : Port). x.control) (so.past p h a)) (side p t.count)
      ∙ control_before p h

  not_of_port : (k : ℕ) → k < 728 → is_of_port (get_or l 0 0) k ≡ false → (k ≡ 1 → ⊥) → get_or m k 0 ≡ get_or l k 0
  not_of_port k h e n = untouched.ticked r l k (omega (arith, table_long l is)) (subst (λ (c : ℕ). is_of_port c k ≡ false) (sym count_is) e) n

  cell_kept : (k : ℕ) → k < 728 → may_change k (get_or l 0 0) ≡ false → get_or m k 0 ≡ get_or l k 0
  unfolding may_change is_of_port
  cell_kept k h e =
      ⊎_elim
      (λ (a : k < 8). let q : eqb k 1 ≡ false = simp (lt-ltb k 8 a) at e in not_of_port k h (simp (lt-leb 8 k a)) (eqb-false k 1 q))
      (λ (a : 8 ≤ k).
      let field_of : (ltb k 584 && ltb ((k - 8) % 48) (get_or l 0 0)) ≡ false → get_or m k 0 ≡ get_or l k 0 =
      λ f. not_of_port k h (ap₂ ◌&&◌ (le-leb 8 k a) f) (λ z. omega arith) in
      ⊎_elim
      (λ (b : k < 56). field_of (simp (le-ltb k 8 a, lt-ltb k 56 b) at e))
      (λ (b : 56 ≤ k).
      ⊎_elim
      (λ (d : k < 104). let z : 56 + (k - 56) ≡ k = omega arith in subst (λ (j : ℕ). get_or m j 0 ≡ get_or l j 0) z (kept_control (k - 56) (omega arith)))
      (λ (d : 104 ≤ k). field_of (simp (le-ltb k 8 a, le-ltb k 56 b, le-leb 104 k d) at e))
      (side k 104))
      (side k 56))
      (side k 8)

  kept : rest_kept l m ≡ true
  unfolding rest_kept
  kept = every_of 728 _ (λ k h. otherwise _ _ (λ e. eq-eqb _ _ (cell_kept k h e)))

  pub tick_is_right : tick_right l m r.answer figure ≡ true
  unfolding tick_right
  tick_is_right = simp (right, eq-eqb _ _ stored, kept)

-- what the program has in hand after the tick
pub right_in : (l block : List ℕ) (figure : ℕ) (after : List ℕ) (x : Result Closed Refusal) → x ≡ (tick_on l block figure).answer → after ≡ cells_told (tick_on l block figure) l
    → first_number (tick_list l block figure) ≡ 0 → tick_right l after x figure ≡ true
right_in l block figure after x e f zero = ap₂ (λ (a : List ℕ) (y : Result Closed Refusal). tick_right l a y figure) f e ∙ tick_is_right l block figure zero
