-- What is proved of specs/EveryHistory.
-- Assumes nothing.
use Prim.Native.Nat.{ℕ, ◌≤◌, ◌<◌, ◌^◌}
use mathlib.Core.Path.{◌≡◌, refl, sym, ◌∙◌, ap, ap₂, subst}
use mathlib.Core.Bool.{cond}
use mathlib.Core.List.{List, [], ◌∷◌}
use mathlib.Core.Logic.{◌⊎◌, inl, inr, ⊎_elim}
use native.Mathlib.Omega.{arith}
use lib.Dec.{leb, eqb}
use borrow.Author.Tests.{leb-false, ltb-false}
use Rattle.lists.specs.Bits.{above}
use Rattle.lists.proofs.Ladder.{ladder_holds}
use Rattle.lists.proofs.Places.{side}
use Rattle.lists.proofs.Tests.{choice_on, fails_left, fails_right}
use Rattle.port.specs.States.{is_idle}
use Rattle.control.specs.Control.{refused}
use Rattle.table.specs.Parts.{Told, port_at, refuse}
use Rattle.table.proofs.Laws.{well_count}
use Rattle.table.specs.declared.form.Table.{Table}
use Rattle.table.specs.declared.form.Closed.{Closed}
use Rattle.std.specs.Prelude.{Result}
use Rattle.sizes.specs.declared.refusals.Refusal.{Refusal}
use Rattle.replies.specs.Calls.{control_refusals, write_control, status_refusals, read_status, request_refusals, request}
use Rattle.passes.specs.Tick.{tick}
use Rattle.interface.specs.Laws.{Are}
use Rattle.statements.specs.History.{Call, control, status, requested, ticked, after, reached, Shown, nothing, adds, shown}
use Rattle.statements.proofs.Reached.{Stopped, Ran, tick_told_lem, reached_well}
use Rattle.history.specs.Decode.{calls_of}
use Rattle.history.specs.Lent.{cells_reached}
use Rattle.history.proofs.LentLaws.{cells_reached_lem}
use Rattle.marks.specs.Mark.{mark_of}
use Rattle.history.proofs.MarkLaws.{quiet, marks_reached_lem}
use Rattle.history.proofs.Plain.{plain_tick}
use Rattle.history.proofs.Spelled.{Fits, OfBytes, All, spelled, turned, spelled_back, spelled_bytes, turned_all}
use Rattle.history.specs.EveryHistory.{Same, EveryHistoryReached}

-- ---- a call is left out, or some record does what it does

-- the call changes nothing
record Left (t : Table) (c : Call) : Type 0 where
  table : after t c ≡ t
  shows : (p : ℕ) (x : Shown) → adds t p c x ≡ x

-- a call that a record holds does the same
record Kept (t : Table) (c : Call) : Type 0 where
  call : Call
  fits : Fits call
  of_bytes : OfBytes call
  table : after t call ≡ after t c
  shows : (p : ℕ) (x : Shown) → adds t p call x ≡ adds t p c x

both_or : {A B : Type 0} → A ⊎ (A → ⊥) → B ⊎ (B → ⊥) → (A × B) ⊎ (A × B → ⊥)
both_or (inl a) (inl b) = inl (a, b)
both_or (inl a) (inr b) = inr (λ x. b x.1)
both_or (inr a) b = inr (λ x. a x.0)

below_or : (a b : ℕ) → (a < b) ⊎ (a < b → ⊥)
below_or a b = ⊎_elim (λ (x : a < b). inl x) (λ (x : b ≤ a). inr (λ y. omega arith)) (side a b)

module _ (t : Table) (few : t.count ≤ 48) where
  control_still : (p w : ℕ) → (Fits (control p w) → ⊥) → (write_control t p w).table ≡ t
  unfolding write_control refuse refused above
  control_still p w odd =
      ladder_holds (λ (r : Told (Result Unit Refusal)). r.table ≡ t) (λ k. refuse k t) _ (control_refusals t p w) (λ k. refl)
      (λ c. absurd (odd (omega (arith, leb-false t.count p c.1.0), omega (arith, leb-false 64 w (fails_left (leb 64 w) _ c.1.1.0)))))

  status_still : (p : ℕ) → (Fits (status p) → ⊥) → (read_status t p).table ≡ t
  unfolding read_status refuse
  status_still p odd =
      ladder_holds (λ (r : Told (Result ℕ Refusal)). r.table ≡ t) (λ k. refuse k t) _ (status_refusals t p) (λ k. refl)
      (λ c. absurd (odd (omega (arith, leb-false t.count p c.1.0))))

  request_still : (p v : ℕ) → (Fits (requested p v) → ⊥) → (request t p v).table ≡ t
  unfolding request refuse
  request_still p v odd =
      ladder_holds (λ (r : Told (Result Unit Refusal)). r.table ≡ t) (λ k. refuse k t) _ (request_refusals t p v) (λ k. refl)
      (λ c. absurd (odd (omega (arith, leb-false t.count p c.1.0), omega (arith, ltb-false _ v (fails_right (eqb v 0) _ c.1.1.0)))))

  stopped_left : (block : List ℕ) (figure : ℕ) → Stopped t (tick t block figure) → Left t (ticked block figure)
  unfolding after adds
  stopped_left block figure x = record { table = x.table; shows = λ p y. simp x.answer }

  ran_kept : (block : List ℕ) (figure : ℕ) → Ran t block figure (tick t block figure) → Kept t (ticked block figure)
  unfolding after
  ran_kept block figure x =
      let b = plain_tick t block figure x.answer in
      record {
        call = ticked b.bytes figure;
        fits = (omega (arith, b.long), omega (arith, b.range));
        of_bytes = b.are_bytes;
        table = ap (λ (r : Told (Result Closed Refusal)). r.table) b.same;
        shows = b.adds_same;
      }

  kept_or : (c : Call) → Kept t c ⊎ Left t c
  unfolding after adds
  kept_or (control p w) =
      ⊎_elim
      (λ (f : Fits (control p w)). inl (record { call = control p w; fits = f; of_bytes = tt; table = refl; shows = λ q x. refl }))
      (λ (odd : Fits (control p w) → ⊥). inr (record { table = control_still p w odd; shows = λ q x. refl }))
      (both_or (below_or p (2 ^ 32)) (below_or w (2 ^ 32)))
  kept_or (status p) =
      ⊎_elim
      (λ (f : Fits (status p)). inl (record { call = status p; fits = f; of_bytes = tt; table = refl; shows = λ q x. refl }))
      (λ (odd : Fits (status p) → ⊥). inr (record { table = status_still p odd; shows = λ q x. refl }))
      (below_or p (2 ^ 32))
  kept_or (requested p v) =
      ⊎_elim
      (λ (f : Fits (requested p v)). inl (record { call = requested p v; fits = f; of_bytes = tt; table = refl; shows = λ q x. refl }))
      (λ (odd : Fits (requested p v) → ⊥). inr (record { table = request_still p v odd; shows = λ q x. refl }))
      (both_or (below_or p (2 ^ 32)) (below_or v (2 ^ 32)))
  kept_or (ticked block figure) =
      ⊎_elim
      (λ (x : Stopped t (tick t block figure)). inr (stopped_left block figure x))
      (λ (x : Ran t block figure (tick t block figure)). inl (ran_kept block figure x))
      (tick_told_lem t block figure)

-- a history of calls that records hold
record Fitting (n : ℕ) (h : List Call) : Type 0 where
  calls : List Call
  fits : All Fits calls
  of_bytes : All OfBytes calls
  same : Same n calls h

module _ (n : ℕ) (a : 1 ≤ n) (b : n ≤ 48) where
  one_more : (c : Call) (g h : List Call) → Same n g h → (k : Kept (reached n h) c) → Same n (k.call ∷ g) (c ∷ h)
  unfolding reached shown
  one_more c g h s k =
      record {
        table = ap (λ (t : Table). after t k.call) s.table ∙ k.table;
        shows = λ p.
            ap₂ (λ (t : Table) (x : Shown). cond (is_idle (port_at (after t k.call) p).state) nothing (adds t p k.call x)) s.table (s.shows p)
            ∙ ap₂ (λ (t : Table) (x : Shown). cond (is_idle (port_at t p).state) nothing x) k.table (k.shows p (shown n p h));
      }

  one_less : (c : Call) (h : List Call) → Left (reached n h) c → Same n h (c ∷ h)
  unfolding reached shown
  one_less c h l =
      let t = reached n h in
      record {
        table = sym l.table;
        shows = λ p.
            sym (ap (λ (u : Table). cond (is_idle (port_at u p).state) nothing (adds t p c (shown n p h))) l.table
            ∙ choice_on (λ (z : Shown). z ≡ shown n p h) (is_idle (port_at t p).state) nothing (adds t p c (shown n p h))
            (λ i. sym (quiet n a b h p i))
            (λ i. l.shows p (shown n p h)));
      }

  fitting : (h : List Call) → Fitting n h
  fitting [] = record { calls = []; fits = tt; of_bytes = tt; same = record { table = refl; shows = λ p. refl } }
  fitting (c ∷ h) =
      let g = fitting h in
      ⊎_elim
      (λ (k : Kept (reached n h) c). record { calls = k.call ∷ g.calls; fits = (k.fits, g.fits); of_bytes = (k.of_bytes, g.of_bytes); same = one_more c g.calls h g.same k })
      (λ (l : Left (reached n h) c).
      let s = one_less c h l in
      record { calls = g.calls; fits = g.fits; of_bytes = g.of_bytes; same = record { table = g.same.table ∙ s.table; shows = λ p. g.same.shows p ∙ s.shows p } })
      (kept_or (reached n h) (well_count (reached n h) (reached_well n a b h)) c)

pub every_history : EveryHistoryReached
every_history n a b h =
    let g = fitting n a b h in
    let l = spelled (turned g.calls []) in
    let s : Same n (calls_of l) h = subst (λ (c : List Call). Same n c h) (sym (spelled_back g.calls)) g.same in
    record {
      bytes = l;
      are_bytes = spelled_bytes (turned g.calls []) (turned_all Fits g.calls [] g.fits tt) (turned_all OfBytes g.calls [] g.of_bytes tt);
      same = s;
      cells = subst (λ (t : Table). Are t (cells_reached n (calls_of l))) s.table (cells_reached_lem n a b (calls_of l));
      marks = λ p k. marks_reached_lem n a b (calls_of l) p k ∙ ap₂ (λ (t : Table) (x : Shown). mark_of (is_idle (port_at t p).state) x) s.table (s.shows p);
    }
