-- The passes of a tick, one after the other, are the tick, over any move that closes no port by itself: at each place below the count the
-- moved port settles by the claim that was kept or shed. Where all claims fit, who asked enters its state; where no port asks besides, the
-- moves alone are the tick.
-- Assumes nothing.
use Prim.Native.Nat.{ℕ, ◌+◌, ◌≤◌, ◌<◌, zero-le}
use mathlib.Core.Path.{◌≡◌, refl, sym, ◌∙◌, ap, ap₂}
use mathlib.Core.Bool.{Bool, true, false, cond, ◌&&◌, true≢false}
use mathlib.Core.List.{List}
use mathlib.Core.Logic.{⊎_elim}
use native.Mathlib.Nat.{le_refl, le_trans, le-add_right, le-add_left}
use native.Mathlib.Omega.{arith}
use lib.Dec.{ltb, leb}
use lib.ListN.{get_or}
use borrow.Author.Tests.{lt-ltb, le-ltb, le-leb, lt-leb, leb-true}
use Rattle.sizes.specs.Sizes.{most_ports}
use Rattle.lists.specs.Places.{tabulate}
use Rattle.lists.proofs.Places.{get_d_tabulate, tabulate_cong, side}
use Rattle.lists.proofs.Tests.{choice}
use Rattle.lists.specs.Total.{total}
use Rattle.lists.proofs.Total.{total_cong, total_mono, total_plus, total_less}
use Rattle.power.specs.declared.Power.{Power}
use Rattle.control.specs.Control.{priority_of}
use Rattle.port.specs.States.{closed}
use Rattle.port.specs.declared.form.Moved.{Moved}
use Rattle.port.specs.declared.form.Port.{Port}
use Rattle.port.specs.declared.form.State.{State}
use Rattle.settling.specs.Claim.{rank_in, settled_as}
use Rattle.settling.proofs.Claim.{rank_in_lem, urgency_small, settled_as_lem}
use Rattle.settling.specs.Settle.{urgency, rank, granted, settled}
use Rattle.share.specs.declared.Claim.{Claim}
use Rattle.share.specs.Given.{rank_of, demand_of}
use Rattle.share.proofs.Given.{claims_of, claims_of_lem}
use Rattle.share.proofs.Laws.{all_keep}
use Rattle.share.specs.Share.{no_claim, claims, keeps, claimed_sum, sum_where}
use Rattle.table.specs.Drawn.{draws}
use Rattle.table.specs.Parts.{port_at}
use Rattle.table.specs.declared.form.Table.{Table}
use Rattle.cells.specs.Cells.{port_of}
use Rattle.boards.proofs.Laws.{Opens, rank_here_lem}
use Rattle.boards.specs.Sharing.{rank_at, claim_at, kept_at, settled_at, port_after}
use Rattle.claims.specs.Claimed.{is_set, wants, claims_on}
use Rattle.passes.specs.Passes.{kept_on, settled_by, admitted_by, shared_by}

-- an asker has a claim
asks_rank : (before : State) (m : Moved) → m.asks ≡ true → rank before m < no_claim
unfolding rank
asks_rank before m e =
    let small = urgency_small (priority_of m.port.control) in
    rw e (choice (λ (r : ℕ). r < no_claim) (closed before && closed m.port.state) _ _ (omega arith) (omega arith))

-- a kept claim of rank 3 is an asker's, and what is no claim changes nothing
entered : (a : Bool) (x : Port) → (settled_as (cond a 3 no_claim) true x).port ≡ cond a (granted x.state x) x
unfolding settled_as
entered true x = refl
entered false x = refl

-- a table, its moves, and the cells and the lane that hold what they came to
module _ (t : Table) (moved : ℕ → Moved) (opens : Opens t moved) (few : t.count ≤ most_ports) (l lane : List ℕ)
    (ports : (p : ℕ) → p < t.count → port_of l p ≡ (moved p).port) (asks : (p : ℕ) → p < t.count → is_set (get_or lane p 0) ≡ (moved p).asks) where
  -- the claims that the passes work out are the definition's
  abbrev claim : ℕ → Claim
  claim p = record { rank = rank_at t moved p; demand = claim_at t moved p }

  claims_are : claims_on t.count lane l ≡ claims_of (rank_at t moved) (claim_at t moved)
  unfolding claims_on claims_of rank_at claim_at
  claims_are =
      tabulate_cong most_ports _ claim
      (λ p h.
      ⊎_elim
      (λ (k : p < t.count).
      simp (lt-ltb p t.count k)
      (ap₂ (λ (r : ℕ) (d : Power). record { rank = r; demand = d })
      (ap₂ (λ (x : Port) (a : Bool). rank_in x.state x.control a) (ports p k) (asks p k) ∙ rank_in_lem (port_at t p).state (moved p) (opens p k))
      (ap (λ (x : Port). x.demand) (ports p k))))
      (λ (k : t.count ≤ p). simp (le-ltb p t.count k))
      (side p t.count))

  rank_there : (p : ℕ) → p < most_ports → rank_of (claims_of (rank_at t moved) (claim_at t moved)) p ≡ rank_at t moved p
  unfolding rank_of claims_of
  rank_there p h = ap (λ (c : Claim). c.rank) (get_d_tabulate most_ports claim _ p h)

  -- what is claimed is at most what the closed ports draw and the askers want
  claim_here : (p : ℕ) → p < t.count → cond (claims (rank_at t moved) p) (claim_at t moved p).0 0 ≤ draws (moved p).port + cond (moved p).asks (moved p).port.demand.0 0
  unfolding claims claim_at draws rank_at rank
  claim_here p h = simp (lt-ltb p t.count h) (go (closed (port_at t p).state) (closed (moved p).port.state) (moved p).asks (opens p h))
    where
      u : ℕ
      u = urgency (priority_of (moved p).port.control)

      d : ℕ
      d = (moved p).port.demand.0

      at_most_lem : (b : Bool) → cond b d 0 ≤ d
      at_most_lem true = le_refl d
      at_most_lem false = zero-le

      go : (b n a : Bool) → (b ≡ false → n ≡ false) → cond (ltb (cond (b && n) u (cond a (3 + u) no_claim)) no_claim) d 0 ≤ cond n d 0 + cond a d 0
      go true true a o = le_trans (at_most_lem (ltb u no_claim)) (le-add_right d (cond a d 0))
      go true false true o = le_trans (at_most_lem (ltb (3 + u) no_claim)) (le-add_left d 0)
      go true false false o = le_refl 0
      go false true a o = absurd (true≢false (o refl))
      go false false true o = le_trans (at_most_lem (ltb (3 + u) no_claim)) (le-add_left d 0)
      go false false false o = le_refl 0

  pub claimed_at_most : claimed_sum most_ports (rank_at t moved) (λ q. (claim_at t moved q).0) ≤ total t.count (λ p. draws (moved p).port) + total t.count (λ p. cond (moved p).asks (moved p).port.demand.0 0)
  unfolding claimed_sum sum_where claims rank_at
  claimed_at_most =
      rw (total_less t.count most_ports (λ p. cond (claims (rank_at t moved) p) (claim_at t moved p).0 0) few past)
      (rw (sym (total_plus t.count (λ p. draws (moved p).port) (λ p. cond (moved p).asks (moved p).port.demand.0 0)))
      (total_mono t.count (λ p. cond (claims (rank_at t moved) p) (claim_at t moved p).0 0) (λ p. draws (moved p).port + cond (moved p).asks (moved p).port.demand.0 0) claim_here))
    where
      past : (p : ℕ) → t.count ≤ p → cond (claims (rank_at t moved) p) (claim_at t moved p).0 0 ≡ 0
      past p k = simp (le-ltb p t.count k)

  -- what the askers want, by the lane
  wanted_is : total t.count (λ q. wants (get_or lane q 0) l q) ≡ total t.count (λ p. cond (moved p).asks (moved p).port.demand.0 0)
  unfolding wants
  wanted_is = total_cong t.count _ _ (λ p h. ap₂ (λ (a : Bool) (x : Port). cond a x.demand.0 0) (asks p h) (ports p h))

  module _ (supply : Power) where
    -- the claims that the passes keep
    kept_is : (p : ℕ) → p < most_ports → get_or (kept_on (claims_on t.count lane l) supply.0) p false ≡ kept_at t moved supply p
    unfolding kept_on kept_at
    kept_is p h =
        ap (λ (c : List Claim). get_or (tabulate most_ports (keeps most_ports (rank_of c) (demand_of c) supply.0)) p false) claims_are
        ∙ get_d_tabulate most_ports (keeps most_ports (rank_of (claims_of (rank_at t moved) (claim_at t moved))) (demand_of (claims_of (rank_at t moved) (claim_at t moved))) supply.0) false p h
        ∙ claims_of_lem (rank_at t moved) (claim_at t moved) supply.0 p h

    -- a place below the count settles as the definition says
    settled_is : (p : ℕ) → p < t.count → settled_by (claims_on t.count lane l) (kept_on (claims_on t.count lane l) supply.0) l p ≡ (settled_at t moved supply p).port
    unfolding settled_by settled_at
    settled_is p h =
        let k = kept_is p (omega arith) in
        let r : rank_of (claims_on t.count lane l) p ≡ rank (port_at t p).state (moved p) =
        ap (λ (x : List Claim). rank_of x p) claims_are ∙ rank_there p (omega arith) ∙ rank_here_lem t moved p h in
        let K = kept_at t moved supply p in
        let R = rank (port_at t p).state (moved p) in
        ap (λ (m : Moved). m.port)
        (ap (λ (x : ℕ). settled_as x (get_or (kept_on (claims_on t.count lane l) supply.0) p false) (port_of l p)) r
        ∙ ap (λ (b : Bool). settled_as R b (port_of l p)) k
        ∙ ap (settled_as R K) (ports p h)
        ∙ settled_as_lem (port_at t p).state (moved p) K
        ∙ ap (λ (x : ℕ). settled x K (moved p)) (sym (rank_here_lem t moved p h)))

    -- where all claims fit, who asked enters its state, and every other port is as its move left it
    module _ (fits : claimed_sum most_ports (rank_at t moved) (λ q. (claim_at t moved q).0) ≤ supply.0) where
      kept_all : (p : ℕ) → kept_at t moved supply p ≡ ltb (rank_at t moved p) no_claim
      unfolding kept_at claims
      kept_all p = all_keep most_ports (rank_at t moved) (λ q. (claim_at t moved q).0) supply.0 p fits

      admitted : (r : ℕ) (m : Moved) → (m.asks ≡ true → r < no_claim) → (settled r (ltb r no_claim) m).port ≡ cond m.asks (granted m.port.state m.port) m.port
      unfolding settled
      admitted r m small =
          ⊎_elim
          (λ (k : r < no_claim). simp (lt-leb no_claim r k, lt-ltb r no_claim k))
          (λ (k : no_claim ≤ r). simp (le-leb no_claim r k) (none k m.asks refl))
          (side r no_claim)
        where
          none : no_claim ≤ r → (a : Bool) → m.asks ≡ a → m.port ≡ cond a (granted m.port.state m.port) m.port
          none k true q = absurd (omega (arith, small q))
          none k false q = refl

      asker_ranks : (p : ℕ) → p < t.count → (moved p).asks ≡ true → rank_at t moved p < no_claim
      asker_ranks p h e = rw (rank_here_lem t moved p h) (asks_rank (port_at t p).state (moved p) e)

      admitted_is : (p : ℕ) → p < t.count → cond (moved p).asks (granted (moved p).port.state (moved p).port) (moved p).port ≡ (settled_at t moved supply p).port
      unfolding settled_at
      admitted_is p h = sym (ap (λ (b : Bool). (settled (rank_at t moved p) b (moved p)).port) (kept_all p) ∙ admitted (rank_at t moved p) (moved p) (asker_ranks p h))

      admit_is : (p : ℕ) → p < t.count → admitted_by lane l p ≡ (settled_at t moved supply p).port
      unfolding admitted_by
      admit_is p h =
          ap₂ (λ (a : Bool) (x : Port). (settled_as (cond a 3 no_claim) true x).port) (asks p h) (ports p h)
          ∙ entered (moved p).asks (moved p).port
          ∙ admitted_is p h

      -- where no port asks besides, the moves alone are the tick
      pub quiet_is : (p : ℕ) → p < t.count → (moved p).asks ≡ false → (moved p).port ≡ port_after t moved supply p
      unfolding port_after
      quiet_is p h e = simp (lt-ltb p t.count h) (ap (λ (a : Bool). cond a (granted (moved p).port.state (moved p).port) (moved p).port) (sym e) ∙ admitted_is p h)

    -- what the sharing leaves of a place below the count
    pub shared_is : (drawn : ℕ) → drawn ≡ total t.count (λ p. draws (moved p).port) → (p : ℕ) → p < t.count → shared_by t.count lane drawn supply.0 l p ≡ port_after t moved supply p
    unfolding shared_by port_after
    shared_is drawn e p h = simp (lt-ltb p t.count h) (go (leb (drawn + total t.count (λ q. wants (get_or lane q 0) l q)) supply.0) refl)
      where
        go : (b : Bool) → leb (drawn + total t.count (λ q. wants (get_or lane q 0) l q)) supply.0 ≡ b
            → cond b (admitted_by lane l p) (settled_by (claims_on t.count lane l) (kept_on (claims_on t.count lane l) supply.0) l p) ≡ (settled_at t moved supply p).port
        go true q = admit_is (le_trans claimed_at_most (omega (arith, e, wanted_is, leb-true (drawn + total t.count (λ q. wants (get_or lane q 0) l q)) supply.0 q))) p h
        go false q = settled_is p h
