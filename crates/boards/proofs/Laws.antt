-- What the sharing does to a table, over any move: a greater figure closes all that a smaller closes, what the closed ports draw is at
-- most the figure, and what stands past the count is as it was.
-- Assumes nothing.
use Prim.Native.Nat.{ℕ, ◌≤◌, ◌<◌}
use mathlib.Core.Path.{◌≡◌, refl, ◌∙◌, ap}
use mathlib.Core.Bool.{true, false, cond}
use native.Mathlib.Nat.{le_trans}
use native.Mathlib.Omega.{arith}
use lib.Dec.{leb, ltb}
use borrow.Author.Tests.{lt-ltb, le-ltb, ltb-true}
use Rattle.sizes.specs.Sizes.{most_ports}
use Rattle.lists.proofs.Places.{get_d_tabulate}
use Rattle.lists.proofs.Tests.{and_left, and_right}
use Rattle.lists.proofs.Total.{total_mono, total_fewer}
use Rattle.power.specs.declared.Power.{Power}
use Rattle.status.proofs.Laws.{join_assoc}
use Rattle.status.specs.Status.{join}
use Rattle.status.specs.declared.Latches.{Latches}
use Rattle.port.specs.States.{closed}
use Rattle.settling.specs.Settle.{rank, settled}
use Rattle.port.specs.declared.form.Moved.{Moved}
use Rattle.port.specs.declared.form.Port.{Port}
use Rattle.share.proofs.Laws.{more_keeps, kept_sum_fits}
use Rattle.share.specs.Share.{no_claim, keeps, sum_where, kept_sum}
use Rattle.table.specs.Drawn.{closed_at, draws, closed_sum}
use Rattle.table.specs.Parts.{no_port, port_at}
use Rattle.table.specs.declared.form.Table.{Table}
use Rattle.boards.proofs.Settled.{settled_mono, settled_draws, settled_latches, no_claim_open}
use Rattle.boards.specs.Sharing.{rank_at, claim_at, kept_at, settled_at, port_after, latched_at, table_after}

-- what the laws ask of a board's move: it closes no port by itself
abbrev pub Opens : Table → (ℕ → Moved) → Type 0
Opens t moved = (p : ℕ) → p < t.count → closed (port_at t p).state ≡ false → closed (moved p).port.state ≡ false

module _ (t : Table) (moved : ℕ → Moved) where
  pub rank_here_lem : (p : ℕ) → p < t.count → rank_at t moved p ≡ rank (port_at t p).state (moved p)
  unfolding rank_at
  rank_here_lem p l = simp (lt-ltb p t.count l)

  pub rank_past : (p : ℕ) → t.count ≤ p → rank_at t moved p ≡ no_claim
  unfolding rank_at
  rank_past p l = simp (le-ltb p t.count l)

  pub claim_here : (p : ℕ) → p < t.count → claim_at t moved p ≡ (moved p).port.demand
  unfolding claim_at
  claim_here p l = simp (lt-ltb p t.count l)

  module _ (supply : Power) where
    pub count_after : (table_after t moved supply).count ≡ t.count
    unfolding table_after
    count_after = refl

    pub supply_after : (table_after t moved supply).supply ≡ supply
    unfolding table_after
    supply_after = refl

    pub port_after_at : (p : ℕ) → p < most_ports → port_at (table_after t moved supply) p ≡ port_after t moved supply p
    unfolding port_at table_after
    port_after_at p l = get_d_tabulate most_ports (port_after t moved supply) no_port p l

    pub port_past : (p : ℕ) → p < most_ports → t.count ≤ p → port_at (table_after t moved supply) p ≡ port_at t p
    unfolding port_after
    port_past p h l = port_after_at p h ∙ simp (le-ltb p t.count l)

    -- a port below the count is what the sharing makes of its move
    pub port_here : (p : ℕ) → p < most_ports → p < t.count → port_at (table_after t moved supply) p ≡ (settled_at t moved supply p).port
    unfolding port_after
    port_here p h l = port_after_at p h ∙ simp (lt-ltb p t.count l)

module _ (t : Table) (moved : ℕ → Moved) (few : t.count ≤ most_ports) where
  here : (s : Power) (p : ℕ) → p < t.count → port_at (table_after t moved s) p ≡ (settled_at t moved s p).port
  here s p l = port_here t moved s p (omega arith) l

  -- every port closed under the smaller figure is closed under the greater
  pub more_closes : (s s' : Power) → s.0 ≤ s'.0 → (p : ℕ) → closed_at (table_after t moved s) p ≡ true → closed_at (table_after t moved s') p ≡ true
  unfolding closed_at kept_at settled_at
  more_closes s s' h p e =
      let l : p < t.count = rw (count_after t moved s) at (ltb-true p (table_after t moved s).count (and_left (ltb p (table_after t moved s).count) _ e)) in
      let c : closed (port_at (table_after t moved s) p).state ≡ true = and_right (ltb p (table_after t moved s).count) _ e in
      let c' = settled_mono (rank_at t moved p) (kept_at t moved s p) (kept_at t moved s' p) (moved p)
      (more_keeps most_ports (rank_at t moved) (λ q. (claim_at t moved q).0) s.0 s'.0 p h) (rw (here s p l) at c) in
      simp (count_after t moved s', lt-ltb p t.count l, here s' p l) c'

  module _ (opens : Opens t moved) where
    -- a port without a claim is open after its move
    unclaimed : (p : ℕ) → p < t.count → leb no_claim (rank_at t moved p) ≡ true → closed (moved p).port.state ≡ false
    unclaimed p l e = no_claim_open (port_at t p).state (moved p) (rw (rank_here_lem t moved p l) at e) (opens p l)

    -- what a port draws after the tick is its claim, if that was kept, or nothing
    place : (s : Power) (p : ℕ) → p < t.count → draws (port_at (table_after t moved s) p) ≤ cond (keeps most_ports (rank_at t moved) (λ q. (claim_at t moved q).0) s.0 p) (claim_at t moved p).0 0
    unfolding kept_at claim_at settled_at
    place s p l =
        rw (here s p l)
        (simp (lt-ltb p t.count l) (settled_draws (rank_at t moved p) (kept_at t moved s p) (moved p) (unclaimed p l)))

    -- the closed ports' demands add up to no more than the figure
    pub closed_fits : (s : Power) → closed_sum (table_after t moved s) ≤ s.0
    unfolding closed_sum sum_where kept_sum table_after
    closed_fits s =
        let demand : ℕ → ℕ = λ q. (claim_at t moved q).0 in
        let g : ℕ → ℕ = λ p. cond (keeps most_ports (rank_at t moved) demand s.0 p) (demand p) 0 in
        le_trans (total_mono t.count (λ p. draws (port_at (table_after t moved s) p)) g (place s))
        (le_trans (total_fewer t.count most_ports g few) (kept_sum_fits most_ports (rank_at t moved) demand s.0))

-- what a journal asks of a board's move: it tells what it latched
abbrev pub Tells : Table → (ℕ → Moved) → Type 0
Tells t moved = (p : ℕ) → p < t.count → (moved p).port.latches ≡ join (port_at t p).latches (moved p).latched

-- then a port's latches after the tick are those that it had and those that were latched in it
pub latches_after : (t : Table) (moved : ℕ → Moved) (supply : Power) → t.count ≤ most_ports → Tells t moved → (p : ℕ) → p < t.count
    → (port_at (table_after t moved supply) p).latches ≡ join (port_at t p).latches (latched_at t moved supply p)
unfolding settled_at latched_at
latches_after t moved supply few tells p l =
    let s = settled (rank_at t moved p) (kept_at t moved supply p) (moved p) in
    ap (λ (x : Port). x.latches) (here t moved few supply p l)
    ∙ settled_latches (rank_at t moved p) (kept_at t moved supply p) (moved p)
    ∙ ap (λ (k : Latches). join k s.latched) (tells p l)
    ∙ join_assoc (port_at t p).latches (moved p).latched s.latched
    ∙ simp (lt-ltb p t.count l)
