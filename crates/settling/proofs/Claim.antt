-- What is proved of specs/Claim.
-- Assumes nothing.
use Prim.Native.Nat.{ℕ, ◌+◌, ◌≤◌, ◌<◌}
use mathlib.Core.Path.{◌≡◌, refl}
use mathlib.Core.Bool.{Bool, true, false, cond, not, ◌&&◌, ◌||◌, false≢true, true≢false}
use mathlib.Core.Logic.{⊎_elim}
use native.Mathlib.Omega.{arith}
use lib.Dec.{leb, ltb}
use borrow.Author.Tests.{le-leb, lt-leb, lt-ltb}
use Rattle.lists.proofs.Places.{side}
use Rattle.control.specs.Control.{priority_of}
use Rattle.control.specs.declared.Priority.{Priority}
use Rattle.control.specs.declared.Priority.TheVariants.{Unknown, Critical, High, Low}
use Rattle.port.specs.declared.form.State.{State}
use Rattle.port.specs.declared.form.State.TheVariants.{Disabled, Idle, Detecting, Backoff, Classifying, PowerUp, PowerOn, ErrorDelay, TestMode, TestError}
use Rattle.port.specs.declared.form.Port.{Port}
use Rattle.port.specs.declared.form.Moved.{Moved}
use Rattle.port.specs.States.{closed}
use Rattle.settling.specs.Settle.{urgency, rank, granted, shed, settled}
use Rattle.port.specs.Changes.{quietly}
use Rattle.share.specs.Share.{no_claim}
use Rattle.settling.specs.Claim.{rank_in, settled_as, settling_changes}

-- it is the rank, where a move closes no port by itself: what is closed after it was closed before
pub rank_in_lem : (before : State) (m : Moved) → (closed before ≡ false → closed m.port.state ≡ false)
    → rank_in m.port.state m.port.control m.asks ≡ rank before m
unfolding rank_in rank
rank_in_lem before m opens = go (closed before) refl
  where
    u : ℕ
    u = urgency (priority_of m.port.control)

    go : (b : Bool) → closed before ≡ b → cond (closed m.port.state) u (cond m.asks (3 + u) no_claim) ≡ cond (b && closed m.port.state) u (cond m.asks (3 + u) no_claim)
    go true e = refl
    go false e = simp (opens e)

pub urgency_small : (u : Priority) → urgency u < 3
urgency_small Critical = omega arith
urgency_small High = omega arith
urgency_small Low = omega arith
urgency_small Unknown = omega arith

pub settled_still : (r : ℕ) (kept : Bool) (p : Port) → settling_changes r kept ≡ false → (settled_as r kept p).port ≡ p
unfolding settled_as settling_changes
settled_still r kept p =
    ⊎_elim
    (λ (h : r < no_claim). claimed kept h)
    (λ (h : no_claim ≤ r). λ e. simp (le-leb no_claim r h))
    (side r no_claim)
  where
    claimed : (k : Bool) → r < no_claim → (ltb r no_claim && (not k || leb 3 r)) ≡ false
        → (cond (leb no_claim r) (quietly p) (cond k (quietly (cond (leb 3 r) (granted p.state p) p)) (shed p))).port ≡ p
    claimed true h e =
        let low : leb 3 r ≡ false = simp (lt-ltb r no_claim h) at e in
        simp (lt-leb no_claim r h, low)
    claimed false h e = absurd (true≢false (simp (lt-ltb r no_claim h) at e))

-- a closed port is where it would be granted to be
granted_closed : (s : State) (p : Port) → closed s ≡ true → granted s p ≡ p
unfolding granted
granted_closed Disabled p e = absurd (false≢true e)
granted_closed Idle p e = absurd (false≢true e)
granted_closed Detecting p e = absurd (false≢true e)
granted_closed Backoff p e = absurd (false≢true e)
granted_closed Classifying p e = absurd (false≢true e)
granted_closed PowerUp p e = refl
granted_closed PowerOn p e = refl
granted_closed ErrorDelay p e = absurd (false≢true e)
granted_closed TestMode p e = refl
granted_closed TestError p e = absurd (false≢true e)

either_way : (a : Bool) (p : Port) → cond a p p ≡ p
either_way true p = refl
either_way false p = refl

module _ (before : State) (m : Moved) (kept : Bool) where
  abbrev Same : ℕ → Type 0
  Same r = settled_as r kept m.port ≡ settled r kept m

  -- closed before and still: nothing is granted to it
  holds : (u : ℕ) → u < 3 → closed m.port.state ≡ true → Same u
  unfolding settled_as settled
  holds u h e = simp (lt-leb 6 u (omega arith), lt-leb 3 u (omega arith), granted_closed m.port.state m.port e, either_way m.asks m.port)

  asks : (u : ℕ) → u < 3 → m.asks ≡ true → Same (3 + u)
  unfolding settled_as settled
  asks u h e = simp (lt-leb 6 (3 + u) (omega arith), le-leb 3 (3 + u) (omega arith), e)

  none : Same no_claim
  unfolding settled_as settled
  none = refl

  pub settled_as_lem : settled_as (rank before m) kept m.port ≡ settled (rank before m) kept m
  unfolding rank
  settled_as_lem = go (closed before) (closed m.port.state) m.asks refl refl
    where
      u : ℕ
      u = urgency (priority_of m.port.control)

      small : u < 3
      small = urgency_small (priority_of m.port.control)

      go : (b n a : Bool) → closed m.port.state ≡ n → m.asks ≡ a → Same (cond (b && n) u (cond a (3 + u) no_claim))
      go true true a x y = holds u small x
      go true false true x y = asks u small y
      go true false false x y = none
      go false n true x y = asks u small y
      go false n false x y = none
