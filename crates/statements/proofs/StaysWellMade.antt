-- No call makes an ill-made table: the access switch's tick by the laws of every board, and the calls that change one port. And what those
-- laws ask of its move.
-- Assumes nothing.
use Prim.Native.Nat.{ℕ, zero, suc, ◌*◌, ◌≤◌, ◌<◌}
use mathlib.Core.Path.{◌≡◌, refl}
use mathlib.Core.Bool.{true, false}
use mathlib.Core.List.{List, [], ◌∷◌}
use mathlib.Core.Logic.{◌⊎◌, inl, inr, ⊎_elim}
use native.Mathlib.Omega.{arith}
use lib.ListN.{get_or, set, get_or-replicate}
use borrow.Author.Tests.{le-leb}
use Rattle.sizes.specs.Sizes.{most_ports, sample_bytes}
use Rattle.lists.specs.Bits.{field, above}
use Rattle.lists.specs.Entries.{some}
use Rattle.power.specs.Power.{forced, at_most, highest_supply}
use Rattle.power.specs.declared.Power.{Power}
use Rattle.class.specs.Class.{is_demand}
use Rattle.sample.specs.Sample.{sample_at}
use Rattle.control.specs.Control.{refused}
use Rattle.port.specs.States.{closed}
use Rattle.port.specs.declared.form.Port.{Port}
use Rattle.outcomes.proofs.Open.{open_stays}
use Rattle.boards.specs.Sharing.{table_after}
use Rattle.boards.proofs.SettlesWell.{after_well}
use Rattle.table.specs.declared.form.Table.{Table}
use Rattle.replies.specs.Calls.{cold_port, cold_table, with_control, unlatched, demanding}
use Rattle.block.specs.Digest.{digest}
use Rattle.passes.specs.Tick.{moved_at}
use Rattle.table.specs.Parts.{no_port, port_at, with_port}
use Rattle.table.proofs.WellMadePorts.{Well, well_of, WellTable, table_of, table_test}
use Rattle.table.specs.WellMade.{ill_port, well_port, well_made}
use Rattle.passes.proofs.MovesWell.{digest_well, step_well}

-- ---- the tick
pub tick_well : (t : Table) (block : List ℕ) (supply : Power) → well_made t ≡ true → at_most supply highest_supply ≡ true → well_made (table_after t (moved_at t block) supply) ≡ true
unfolding moved_at
tick_well t block supply e s =
    after_well t (moved_at t block) supply
    (λ p l. step_well (port_at t p) (digest (sample_at block (sample_bytes * p))) (digest_well (sample_at block (sample_bytes * p))) ((table_of t e).ports p l))
    e s

-- the access switch's move closes no port by itself
pub opens : (t : Table) (block : List ℕ) (p : ℕ) → closed (port_at t p).state ≡ false → closed (moved_at t block p).port.state ≡ false
unfolding moved_at
opens t block p = open_stays forced (port_at t p) (digest (sample_at block (sample_bytes * p)))

-- ---- the calls that change one port
-- after a store, what stands at a place is what was stored or what was there
stored : {A : Type 0} (l : List A) (i : ℕ) (a : A) (j : ℕ) (d : A) → (get_or (set l i a) j d ≡ a) ⊎ (get_or (set l i a) j d ≡ get_or l j d)
stored [] i a j d = inr refl
stored (x ∷ l) zero a zero d = inl refl
stored (x ∷ l) zero a (suc j) d = inr refl
stored (x ∷ l) (suc i) a zero d = inr refl
stored (x ∷ l) (suc i) a (suc j) d = stored l i a j d

with_port_well : (p : ℕ) (q : Port) (t : Table) → WellTable t → Well q → WellTable (with_port p q t)
unfolding with_port port_at
with_port_well p q t w v =
    record {
      some_ports = w.some_ports;
      few_ports = w.few_ports;
      supply = w.supply;
      ports = λ k l. ⊎_elim (λ e. rw e v) (λ e. rw e (w.ports k l)) (stored t.ports p q k no_port);
    }

pub controlled_well : (p w : ℕ) (t : Table) → well_made t ≡ true → p < t.count → refused w ≡ false → well_made (with_port p (with_control w (port_at t p)) t) ≡ true
unfolding with_control
controlled_well p w t e l r =
    let x = table_of t e in
    let v = x.ports p l in
    table_test (with_port p (with_control w (port_at t p)) t)
    (with_port_well p (with_control w (port_at t p)) t x (record { counts = v.counts; class = v.class; control = r; demand = v.demand }))

pub unlatched_well : (p : ℕ) (t : Table) → well_made t ≡ true → p < t.count → well_made (with_port p (unlatched (port_at t p)) t) ≡ true
unfolding unlatched
unlatched_well p t e l =
    let x = table_of t e in
    let v = x.ports p l in
    table_test (with_port p (unlatched (port_at t p)) t)
    (with_port_well p (unlatched (port_at t p)) t x (record { counts = v.counts; class = v.class; control = v.control; demand = v.demand }))

pub demanding_well : (d : Power) (p : ℕ) (t : Table) → well_made t ≡ true → p < t.count → is_demand d ≡ true → well_made (with_port p (demanding d (port_at t p)) t) ≡ true
unfolding demanding
demanding_well d p t e l g =
    let x = table_of t e in
    let v = x.ports p l in
    table_test (with_port p (demanding d (port_at t p)) t)
    (with_port_well p (demanding d (port_at t p)) t x (record { counts = v.counts; class = v.class; control = v.control; demand = g }))

-- ---- the cold start
pub cold_well : (n : ℕ) → 1 ≤ n → n ≤ most_ports → well_made (cold_table n) ≡ true
unfolding cold_table port_at well_port ill_port refused is_demand some at_most field above
cold_well n h k =
    table_test (cold_table n)
    (record {
      some_ports = le-leb 1 n h;
      few_ports = le-leb n most_ports k;
      supply = refl;
      ports = λ p l. rw (get_or-replicate most_ports p cold_port no_port (omega arith)) (well_of cold_port refl);
    })
