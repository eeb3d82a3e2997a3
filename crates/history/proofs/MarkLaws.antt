-- What is proved of specs/Marks: the marks that a history leaves say what each port has shown.
-- Assumes nothing.
use Prim.Native.Nat.{ℕ, ◌+◌, ◌*◌, ◌≤◌, ◌<◌}
use mathlib.Core.Path.{◌≡◌, refl, sym, ◌∙◌, ap}
use mathlib.Core.Bool.{Bool, true, false, cond}
use mathlib.Core.List.{List, [], ◌∷◌}
use native.Mathlib.Omega.{arith}
use lib.ListN.{get_or, get_or-replicate}
use Rattle.lists.proofs.Places.{get_d_tabulate}
use Rattle.sample.specs.Sample.{sample_at}
use Rattle.port.specs.States.{is_idle}
use Rattle.port.specs.declared.form.Port.{Port}
use Rattle.table.specs.Parts.{Told, no_port, port_at}
use Rattle.table.specs.declared.form.Table.{Table}
use Rattle.table.specs.declared.form.Closed.{Closed}
use Rattle.std.specs.Prelude.{Result}
use Rattle.sizes.specs.declared.refusals.Refusal.{Refusal}
use Rattle.replies.specs.Calls.{cold_port, cold_table, cold_start}
use Rattle.statements.specs.History.{Call, control, status, requested, ticked, after, reached, accepted, Shown, nothing, both, seen, adds, shown}
use Rattle.statements.proofs.Reached.{cold_table_lem}
use Rattle.history.specs.Lent.{ran_on, cells_reached}
use Rattle.history.proofs.LentLaws.{cells_reached_lem, tick_reached}
use Rattle.history.proofs.States.{idle_cell}
use Rattle.marks.specs.Mark.{noted_mark, mark_of}
use Rattle.marks.proofs.Mark.{note_mark}
use Rattle.history.specs.Marks.{noted_all, block_of, marks_reached}

never : (x : Shown) → x ≡ nothing → x ≡ both → ⊥
never x e f = let z : ◌≡◌ {A = ℕ} 0 1 = cc in omega arith

module _ (n : ℕ) (a : 1 ≤ n) (b : n ≤ 48) where
  -- what a call adds, by whether it is a tick that runs
  adds_by : (h : List Call) (p : ℕ) (c : Call) (x : Shown)
      → adds (reached n h) p c x ≡ cond (ran_on (cells_reached n h) c) (cond (is_idle (port_at (reached n h) p).state) x (seen (sample_at (block_of c) (14 * p)) x)) x
  unfolding adds ran_on
  adds_by h p (control q w) x = refl
  adds_by h p (status q) x = refl
  adds_by h p (requested q v) x = refl
  adds_by h p (ticked block figure) x = ap (λ (r : Told (Result Closed Refusal)). cond (accepted r.answer) (cond (is_idle (port_at (reached n h) p).state) x (seen (sample_at block (14 * p)) x)) x) (sym (tick_reached n a b h block figure))

  pub quiet : (h : List Call) (p : ℕ) → is_idle (port_at (reached n h) p).state ≡ true → shown n p h ≡ nothing
  unfolding shown
  quiet [] p e = refl
  quiet (c ∷ h) p e = simp e

  cold_mark : (p : ℕ) → p < 48 → is_idle (port_at (cold_start n).table p).state ≡ false
  unfolding cold_table port_at
  cold_mark p l = ap (λ (t : Table). is_idle (port_at t p).state) (cold_table_lem n a b) ∙ ap (λ (x : Port). is_idle x.state) (get_or-replicate 48 p cold_port no_port l)

  pub marks_reached_lem : (h : List Call) (p : ℕ) → p < 48 → get_or (marks_reached n h) p 0 ≡ mark_of (is_idle (port_at (reached n h) p).state) (shown n p h)
  unfolding marks_reached reached shown noted_all
  marks_reached_lem [] p l = get_or-replicate 48 p 1 0 l ∙ ap (λ (i : Bool). mark_of i nothing) (sym (cold_mark p l))
  marks_reached_lem (c ∷ h) p l =
      let was = is_idle (port_at (reached n h) p).state in
      let is = is_idle (port_at (after (reached n h) c) p).state in
      get_d_tabulate 48 _ 0 p l
      ∙ ap (noted_mark (get_or (cells_reached n (c ∷ h)) (8 + p) 0) (ran_on (cells_reached n h) c) (block_of c) p) (marks_reached_lem h p l)
      ∙ note_mark was is (ran_on (cells_reached n h) c) (get_or (cells_reached n (c ∷ h)) (8 + p) 0) (block_of c) p (shown n p h) (quiet h p) (sym (idle_cell (reached n (c ∷ h)) (cells_reached n (c ∷ h)) (cells_reached_lem n a b (c ∷ h)) p l))
      ∙ ap (λ (x : Shown). mark_of is (cond is nothing x)) (sym (adds_by h p c (shown n p h)))

  -- who has shown both is marked so
  pub both_mark : (h : List Call) (p : ℕ) → p < 48 → shown n p h ≡ both → get_or (marks_reached n h) p 0 ≡ 3
  both_mark h p l e = marks_reached_lem h p l ∙ go (is_idle (port_at (reached n h) p).state) refl
    where
      go : (i : Bool) → is_idle (port_at (reached n h) p).state ≡ i → mark_of i (shown n p h) ≡ 3
      go true q = absurd (never (shown n p h) (quiet h p q) e)
      go false q = ap (mark_of false) e
