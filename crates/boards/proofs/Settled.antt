-- What settling does to a port, whatever its move: a shed port is open, a port that stays closed draws what it claimed, and what a port
-- latched is what its latches have more.
-- Assumes nothing.
use Prim.Native.Nat.{ℕ, ◌≤◌}
use mathlib.Core.Path.{◌≡◌, refl, sym, ◌∙◌, ap}
use mathlib.Core.Bool.{Bool, true, false, cond, false≢true}
use native.Mathlib.Nat.{le_refl, le_trans, le_of_eq}
use native.Mathlib.Omega.{arith}
use lib.Dec.{leb}
use borrow.Author.Tests.{leb-true}
use Rattle.lists.proofs.Tests.{choice}
use Rattle.power.specs.declared.Power.{Power}
use Rattle.control.specs.Control.{priority_of}
use Rattle.status.proofs.Laws.{join_none}
use Rattle.status.specs.Status.{no_latches, join}
use Rattle.port.specs.Entry.{enter}
use Rattle.port.specs.Changes.{quietly, latch_denied}
use Rattle.port.specs.States.{closed, in_test}
use Rattle.settling.proofs.Claim.{urgency_small}
use Rattle.settling.specs.Settle.{urgency, rank, granted, shed, settled}
use Rattle.share.specs.Share.{no_claim}
use Rattle.port.specs.declared.form.Moved.{Moved}
use Rattle.port.specs.declared.form.Port.{Port}
use Rattle.port.specs.declared.form.State.{State}
use Rattle.port.specs.declared.form.State.TheVariants.{Disabled, Idle, Detecting, Backoff, Classifying, PowerUp, PowerOn, ErrorDelay, TestMode, TestError}
use Rattle.table.specs.Drawn.{draws}

-- a shed port is open
pub shed_open : (p : Port) → closed (shed p).port.state ≡ false
unfolding shed enter
shed_open p = choice (λ (x : Port). closed x.state ≡ false) (in_test p.state) (enter TestError p) (enter Idle p) refl refl

-- a port that is granted its state keeps its demand
pub granted_demand : (s : State) (p : Port) → (granted s p).demand ≡ p.demand
unfolding granted enter
granted_demand Disabled p = refl
granted_demand Idle p = refl
granted_demand Detecting p = refl
granted_demand Backoff p = refl
granted_demand Classifying p = refl
granted_demand PowerUp p = refl
granted_demand PowerOn p = refl
granted_demand ErrorDelay p = refl
granted_demand TestMode p = refl
granted_demand TestError p = refl

-- a port draws at most its demand, and nothing while it is open
pub draws_at_most : (p : Port) → draws p ≤ p.demand.0
unfolding draws
draws_at_most p = choice (λ (n : ℕ). n ≤ p.demand.0) (closed p.state) p.demand.0 0 (le_refl p.demand.0) (omega arith)

pub draws_open : (p : Port) → closed p.state ≡ false → draws p ≡ 0
unfolding draws
draws_open p e = simp e

-- a port without a claim is open, unless it is closed though it was open before the tick
pub no_claim_open : (before : State) (m : Moved) → leb no_claim (rank before m) ≡ true → (closed before ≡ false → closed m.port.state ≡ false) → closed m.port.state ≡ false
unfolding rank
no_claim_open before m e h = go (closed before) (closed m.port.state) refl refl
  where
    u : ℕ
    u = urgency (priority_of m.port.control)

    go : (b n : Bool) → closed before ≡ b → closed m.port.state ≡ n → closed m.port.state ≡ false
    go b false p q = q
    go false true p q = h p
    go true true p q =
        let z : leb no_claim u ≡ true = simp (p, q) at e in
        absurd (omega (arith, leb-true 6 u z, urgency_small (priority_of m.port.control)))

-- what settling makes of a moved port: without a claim, or by whether it was kept
abbrev made : Moved → Bool → Bool → Moved
made m none kept = cond none (quietly m.port) (cond kept (quietly (cond m.asks (granted m.port.state m.port) m.port)) (shed m.port))

-- a port that is closed with its claim kept or shed is closed with it kept
pub settled_mono : (r : ℕ) (k k' : Bool) (m : Moved) → (k ≡ true → k' ≡ true) → closed (settled r k m).port.state ≡ true → closed (settled r k' m).port.state ≡ true
unfolding settled
settled_mono r k k' m h = go (leb no_claim r) k k' h
  where
    go : (t k k' : Bool) → (k ≡ true → k' ≡ true) → closed (made m t k).port.state ≡ true → closed (made m t k').port.state ≡ true
    go true k k' h e = e
    go false true true h e = e
    go false true false h e = absurd (false≢true (h refl))
    go false false k' h e = absurd (false≢true (sym (shed_open m.port) ∙ e))

-- a settled port draws at most its claim, and only if that was kept
pub settled_draws : (r : ℕ) (k : Bool) (m : Moved) → (leb no_claim r ≡ true → closed m.port.state ≡ false) → draws (settled r k m).port ≤ cond k m.port.demand.0 0
unfolding settled
settled_draws r k m h = go (leb no_claim r) k refl
  where
    d : ℕ
    d = m.port.demand.0

    go : (t k : Bool) → leb no_claim r ≡ t → draws (made m t k).port ≤ cond k d 0
    go true k e = omega (arith, draws_open m.port (h e))
    go false true e =
        choice (λ (x : Port). draws x ≤ d) m.asks (granted m.port.state m.port) m.port
        (le_trans (draws_at_most (granted m.port.state m.port)) (le_of_eq (ap (λ (x : Power). x.0) (granted_demand m.port.state m.port))))
        (draws_at_most m.port)
    go false false e = le_of_eq (draws_open (shed m.port).port (shed_open m.port))

granted_latches : (s : State) (p : Port) → (granted s p).latches ≡ p.latches
unfolding granted enter
granted_latches Disabled p = refl
granted_latches Idle p = refl
granted_latches Detecting p = refl
granted_latches Backoff p = refl
granted_latches Classifying p = refl
granted_latches PowerUp p = refl
granted_latches PowerOn p = refl
granted_latches ErrorDelay p = refl
granted_latches TestMode p = refl
granted_latches TestError p = refl

-- what settling tells that it latched is what the port has more
pub settled_latches : (r : ℕ) (k : Bool) (m : Moved) → (settled r k m).port.latches ≡ join m.port.latches (settled r k m).latched
unfolding settled shed enter
settled_latches r k m =
    choice Replied (leb no_claim r) (quietly m.port) _ none
    (choice Replied k (quietly (cond m.asks (granted m.port.state m.port) m.port)) (shed m.port)
    (choice (λ (x : Port). x.latches ≡ join m.port.latches no_latches) m.asks (granted m.port.state m.port) m.port (granted_latches m.port.state m.port ∙ none) none)
    (choice (λ (x : Port). join x.latches latch_denied ≡ join m.port.latches latch_denied) (in_test m.port.state) (enter TestError m.port) (enter Idle m.port) refl refl))
  where
    Replied : Moved → Type 0
    Replied x = x.port.latches ≡ join m.port.latches x.latched

    none : m.port.latches ≡ join m.port.latches no_latches
    none = join_none m.port.latches
