-- What holds of every table that a history reaches: it is well-made, and each port has shown what its state needs.
-- Assumes nothing.
use Prim.Native.Nat.{ℕ, zero, suc, ◌*◌, ◌≤◌, ◌<◌}
use mathlib.Core.Path.{◌≡◌, refl, sym, ◌∙◌, ap, subst}
use mathlib.Core.Bool.{true, false, cond}
use mathlib.Core.List.{List, [], ◌∷◌}
use mathlib.Core.Logic.{◌⊎◌, inl, inr, ⊎_elim}
use native.Mathlib.Omega.{arith}
use lib.ListN.{get_or, set, get_or-replicate}
use borrow.Author.Tests.{leb-false, ltb-false, le-leb, le-ltb, ne_eqb}
use Rattle.std.specs.Prelude.{Result}
use Rattle.sizes.specs.Sizes.{most_ports, sample_bytes}
use Rattle.sizes.specs.declared.refusals.Refusal.{Refusal}
use Rattle.lists.proofs.Ladder.{ladder_holds}
use Rattle.lists.proofs.Tests.{choice_on}
use Rattle.power.specs.Power.{forced, tenths, highest_supply, at_most}
use Rattle.class.proofs.Laws.{budget_is_demand}
use Rattle.class.specs.Class.{level_of}
use Rattle.sample.specs.Sample.{sample_at}
use Rattle.settling.specs.Settle.{settled}
use Rattle.diagram.specs.Step.{step}
use Rattle.port.specs.declared.form.Port.{Port}
use Rattle.port.specs.declared.form.State.{State}
use Rattle.port.specs.States.{is_idle}
use Rattle.replies.specs.Calls.{cold_port, cold_table, cold_start, with_control, control_refusals, write_control, unlatched, status_refusals, status_at, read_status, demanding, request_refusals, request}
use Rattle.block.specs.Digest.{digest}
use Rattle.table.specs.Parts.{Told, no_port, port_at, with_port, refuse, tells}
use Rattle.statements.proofs.StaysWellMade.{tick_well, controlled_well, unlatched_well, demanding_well, cold_well}
use Rattle.table.proofs.Laws.{well_count}
use Rattle.boards.proofs.Laws.{count_after, port_here}
use Rattle.boards.specs.Sharing.{rank_at, kept_at, settled_at, table_after}
use Rattle.boards.specs.Masks.{answered}
use Rattle.passes.specs.Tick.{moved_at, tick_refusals, tick}
use Rattle.table.specs.WellMade.{well_made}
use Rattle.table.specs.declared.form.Table.{Table}
use Rattle.table.specs.declared.form.Closed.{Closed}
use Rattle.statements.specs.History.{Call, control, status, requested as asked, ticked, after, reached, accepted, Shown, nothing, seen, adds, shown}
use Rattle.statements.proofs.KeepsShown.{Needs, idle_needs, tick_needs, tick_needs_idle}

-- a call that leaves count and states as they were, and the table well-made
record Keeps (t u : Table) : Type 0 where
  count : u.count ≡ t.count
  well : well_made t ≡ true → well_made u ≡ true
  states : (p : ℕ) → (port_at u p).state ≡ (port_at t p).state

same : (t : Table) → Keeps t t
same t = record { count = refl; well = λ e. e; states = λ p. refl }

-- a store that keeps a part of what it replaces keeps that part everywhere
part_kept : {A B : Type 0} (f : A → B) (l : List A) (i : ℕ) (a : A) (d : A) → f a ≡ f (get_or l i d) → (j : ℕ) → f (get_or (set l i a) j d) ≡ f (get_or l j d)
part_kept f [] i a d e j = refl
part_kept f (x ∷ l) zero a d e zero = e
part_kept f (x ∷ l) zero a d e (suc j) = refl
part_kept f (x ∷ l) (suc i) a d e zero = refl
part_kept f (x ∷ l) (suc i) a d e (suc j) = part_kept f l i a d e j

changed : (p : ℕ) (q : Port) (t : Table) → q.state ≡ (port_at t p).state → (well_made t ≡ true → well_made (with_port p q t) ≡ true) → Keeps t (with_port p q t)
unfolding with_port port_at
changed p q t e w = record { count = refl; well = w; states = part_kept (λ (x : Port). x.state) t.ports p q no_port e }

control_keeps : (t : Table) (p w : ℕ) → Keeps t (write_control t p w).table
unfolding write_control refuse tells with_control
control_keeps t p w =
    ladder_holds (λ (r : Told (Result Unit Refusal)). Keeps t r.table) (λ k. refuse k t) _ (control_refusals t p w) (λ k. same t)
    (λ c. changed p (with_control w (port_at t p)) t refl (λ v. controlled_well p w t v (leb-false t.count p c.1.0) c.1.1.0))

status_keeps : (t : Table) (p : ℕ) → Keeps t (read_status t p).table
unfolding read_status status_at refuse tells unlatched
status_keeps t p =
    ladder_holds (λ (r : Told (Result ℕ Refusal)). Keeps t r.table) (λ k. refuse k t) _ (status_refusals t p) (λ k. same t)
    (λ c. changed p (unlatched (port_at t p)) t refl (λ v. unlatched_well p t v (leb-false t.count p c.1.0)))

request_keeps : (t : Table) (p v : ℕ) → Keeps t (request t p v).table
unfolding request refuse tells demanding level_of
request_keeps t p v =
    ladder_holds (λ (r : Told (Result Unit Refusal)). Keeps t r.table) (λ k. refuse k t) _ (request_refusals t p v) (λ k. same t)
    (λ c. changed p (demanding (level_of v) (port_at t p)) t refl (λ w. demanding_well (level_of v) p t w (leb-false t.count p c.1.0) (budget_is_demand _)))

-- an accepted tick: its table is the tick's, its figure is in range, and it came from a well-made table
pub record Ran (t : Table) (block : List ℕ) (figure : ℕ) (r : Told (Result Closed Refusal)) : Type 0 where
  pub answer : accepted r.answer ≡ true
  pub whole : r ≡ answered (table_after t (moved_at t block) (tenths figure))
  pub table : r.table ≡ table_after t (moved_at t block) (tenths figure)
  pub well : well_made t ≡ true
  pub figure_in_range : figure ≤ 60000

-- a refused one: its table is as it came
pub record Stopped (t : Table) (r : Told (Result Closed Refusal)) : Type 0 where
  pub answer : accepted r.answer ≡ false
  pub table : r.table ≡ t

stopped : (k : ℕ) (t : Table) → Stopped t (refuse k t)
unfolding refuse
stopped k t = record { answer = refl; table = refl }

-- a tick runs or is stopped
pub tick_told_lem : (t : Table) (block : List ℕ) (figure : ℕ) → Stopped t (tick t block figure) ⊎ Ran t block figure (tick t block figure)
unfolding tick answered tells well_made
tick_told_lem t block figure =
    ladder_holds (λ (r : Told (Result Closed Refusal)). Stopped t r ⊎ Ran t block figure r) (λ k. refuse k t) _ (tick_refusals t block figure)
    (λ k. inl (stopped k t))
    (λ c. inr (record { answer = refl; whole = refl; table = refl; well = simp c.0; figure_in_range = ltb-false 60000 figure c.1.1.0 }))

pub in_range : (f : ℕ) → f ≤ 60000 → at_most (tenths f) highest_supply ≡ true
unfolding at_most
in_range f h = le-leb f 60000 h

-- every call keeps a table well-made
call_well : (t : Table) (c : Call) → well_made t ≡ true → well_made (after t c) ≡ true
unfolding after
call_well t (control p w) e = (control_keeps t p w).well e
call_well t (status p) e = (status_keeps t p).well e
call_well t (asked p v) e = (request_keeps t p v).well e
call_well t (ticked block figure) e =
    ⊎_elim
    (λ (x : Stopped t (tick t block figure)). rw x.table e)
    (λ (x : Ran t block figure (tick t block figure)). rw x.table (tick_well t block (tenths figure) e (in_range figure x.figure_in_range)))
    (tick_told_lem t block figure)

pub cold_table_lem : (n : ℕ) → 1 ≤ n → n ≤ most_ports → (cold_start n).table ≡ cold_table n
unfolding cold_start tells
cold_table_lem n a b = simp (ne_eqb n 0 (λ e. omega arith), le-ltb most_ports n b)

-- every table that a history reaches is well-made
pub reached_well : (n : ℕ) → 1 ≤ n → n ≤ most_ports → (h : List Call) → well_made (reached n h) ≡ true
unfolding reached
reached_well n a b [] = subst (λ (t : Table). well_made t ≡ true) (sym (cold_table_lem n a b)) (cold_well n a b)
reached_well n a b (c ∷ h) = call_well (reached n h) c (reached_well n a b h)

-- ---- what each port has shown
-- a call after which the port does not stand in IDLE
module _ (t : Table) (m : well_made t ≡ true) (p : ℕ) (x : Shown) where
  quiet_needs : (u : Table) → Keeps t u → Needs (port_at t p).state x → Needs (port_at u p).state x
  quiet_needs u k n = subst (λ (st : State). Needs st x) (sym (k.states p)) n

  ran_needs : (block : List ℕ) (figure : ℕ) → Ran t block figure (tick t block figure) → p < t.count → Needs (port_at t p).state x
      → Needs (port_at (tick t block figure).table p).state (cond (is_idle (port_at t p).state) x (seen (sample_at block (sample_bytes * p)) x))
  unfolding settled_at moved_at
  ran_needs block figure r l n =
      rw r.table
      (rw (port_here t (moved_at t block) (tenths figure) p (omega (arith, well_count t m)) l)
      (choice_on
      (λ (z : Shown). Needs (settled (rank_at t (moved_at t block) p) (kept_at t (moved_at t block) (tenths figure) p) (step forced (port_at t p) (digest (sample_at block (sample_bytes * p))))).port.state z)
      (is_idle (port_at t p).state) x (seen (sample_at block (sample_bytes * p)) x)
      (λ e. tick_needs_idle (sample_at block (sample_bytes * p)) (rank_at t (moved_at t block) p) (kept_at t (moved_at t block) (tenths figure) p) (port_at t p) x e n)
      (λ e. tick_needs (sample_at block (sample_bytes * p)) (rank_at t (moved_at t block) p) (kept_at t (moved_at t block) (tenths figure) p) (port_at t p) x n)))

  call_needs : (c : Call) → p < t.count → Needs (port_at t p).state x → Needs (port_at (after t c) p).state (adds t p c x)
  unfolding after adds
  call_needs (control q w) l n = quiet_needs (write_control t q w).table (control_keeps t q w) n
  call_needs (status q) l n = quiet_needs (read_status t q).table (status_keeps t q) n
  call_needs (asked q v) l n = quiet_needs (request t q v).table (request_keeps t q v) n
  call_needs (ticked block figure) l n =
      ⊎_elim
      (λ (e : Stopped t (tick t block figure)). rw e.answer (rw e.table n))
      (λ (e : Ran t block figure (tick t block figure)). rw e.answer (ran_needs block figure e l n))
      (tick_told_lem t block figure)

pub call_count : (t : Table) (c : Call) → (after t c).count ≡ t.count
unfolding after
call_count t (control p w) = (control_keeps t p w).count
call_count t (status p) = (status_keeps t p).count
call_count t (asked p v) = (request_keeps t p v).count
call_count t (ticked block figure) =
    ⊎_elim
    (λ (e : Stopped t (tick t block figure)). ap (λ (u : Table). u.count) e.table)
    (λ (e : Ran t block figure (tick t block figure)). ap (λ (u : Table). u.count) e.table ∙ count_after t (moved_at t block) (tenths figure))
    (tick_told_lem t block figure)

cold_needs : (n : ℕ) → n ≤ most_ports → (p : ℕ) → p < n → Needs (port_at (cold_table n) p).state nothing
unfolding cold_table port_at
cold_needs n b p l = subst (λ (x : Port). Needs x.state nothing) (sym (get_or-replicate most_ports p cold_port no_port (omega arith))) tt

pub cold_count : (n : ℕ) → (cold_table n).count ≡ n
unfolding cold_table
cold_count n = refl

-- every port below the count has shown what its state needs
pub reached_needs : (n : ℕ) → 1 ≤ n → n ≤ most_ports → (h : List Call) (p : ℕ) → p < (reached n h).count → Needs (port_at (reached n h) p).state (shown n p h)
unfolding reached shown
reached_needs n a b [] p l =
    let e = cold_table_lem n a b in
    let k : p < n = subst (λ (m : ℕ). p < m) (ap (λ (t : Table). t.count) e ∙ cold_count n) l in
    subst (λ (t : Table). Needs (port_at t p).state nothing) (sym e) (cold_needs n b p k)
reached_needs n a b (c ∷ h) p l =
    choice_on (λ (x : Shown). Needs (port_at (after (reached n h) c) p).state x) (is_idle (port_at (after (reached n h) c) p).state) _ _
    (λ e. idle_needs (port_at (after (reached n h) c) p).state _ e)
    (λ e.
    let k : p < (reached n h).count = subst (λ (m : ℕ). p < m) (call_count (reached n h) c) l in
    call_needs (reached n h) (reached_well n a b h) p (shown n p h) c k (reached_needs n a b h p k))
