-- What one port's claim is, and what the sharing makes of the port, by how the port was before the tick: the move itself is not walked again.
-- Assumes nothing.
use Prim.Native.Nat.{ℕ, ◌+◌, ◌<◌}
use mathlib.Core.Path.{◌≡◌, refl, sym, ◌∙◌, ap, subst}
use mathlib.Core.Bool.{Bool, true, false, cond, not, ◌&&◌, and-false, or-false, or-true, false≢true, true≢false}
use mathlib.Core.Logic.{⊎_elim}
use native.Mathlib.Omega.{arith}
use lib.Dec.{ltb}
use borrow.Author.Tests.{lt-leb, lt-ltb}
use Rattle.lists.proofs.Tests.{passed, not_both_lem}
use Rattle.lists.proofs.Tests.{choice}
use Rattle.power.specs.Power.{forced}
use Rattle.power.specs.declared.Power.{Power}
use Rattle.sample.specs.Sample.{flags_of}
use Rattle.sample.specs.declared.Sample.{Sample}
use Rattle.class.specs.Class.{class_of_two, budget_of}
use Rattle.std.specs.Prelude.{Result, Ok, Err}
use Rattle.class.specs.declared.Failure.{Failure}
use Rattle.class.specs.declared.Failure.TheVariants.{OverCurrent, Disagree}
use Rattle.control.specs.Control.{priority_of}
use Rattle.status.specs.Status.{join}
use Rattle.port.specs.Entry.{enter}
use Rattle.port.specs.States.{code_of, closed, in_test, is_idle}
use Rattle.port.specs.declared.form.Classing.{Classing}
use Rattle.port.specs.declared.form.Classing.TheVariants.{NotDone as NotClassed, OverCurrent as ClassedOver, Disagree as ClassedApart, Is as Classed}
use Rattle.port.specs.declared.form.Moved.{Moved}
use Rattle.port.specs.declared.form.Port.{Port}
use Rattle.port.specs.declared.form.Reading.{Reading}
use Rattle.port.specs.declared.form.State.{State}
use Rattle.port.specs.declared.form.State.TheVariants.{Idle, Classifying, ErrorDelay, TestError}
use Rattle.outcomes.proofs.Outcomes.{faulted, step_outcome}
use Rattle.diagram.specs.Step.{step}
use Rattle.settling.proofs.Claim.{urgency_small}
use Rattle.settling.specs.Settle.{urgency, rank, granted, shed, settled}
use Rattle.block.specs.Digest.{classing_of, digest}
use Rattle.boards.proofs.Settled.{shed_open}

-- ---- what a move can claim

-- nothing; what a closed port draws; 154 from IDLE; or the budget of the class just read
pub data Claimed (p : Port) (m : Moved) : Type 0 where
  nothing : closed m.port.state ≡ false → m.asks ≡ false → Claimed p m
  holds : closed p.state ≡ true → closed m.port.state ≡ true → m.asks ≡ false → m.port.demand ≡ p.demand
      → in_test m.port.state ≡ in_test p.state → Claimed p m
  forces : p.state ≡ Idle → m.port.state ≡ Idle → m.asks ≡ true → m.port.demand ≡ forced → Claimed p m
  classes : p.state ≡ Classifying → m.port.state ≡ Classifying → m.asks ≡ true → m.port.demand ≡ budget_of m.port.class → Claimed p m

-- a class is read with its budget
abbrev Budgeted : Classing → Type 0
Budgeted NotClassed = Unit {0}
Budgeted ClassedOver = Unit {0}
Budgeted ClassedApart = Unit {0}
Budgeted (Classed k d) = d ≡ budget_of k

classing_budgeted : (x : Result ℕ Failure) → Budgeted (classing_of x)
classing_budgeted (Ok k) = refl
classing_budgeted (Err OverCurrent) = tt
classing_budgeted (Err Disagree) = tt

read_budgeted : (s : Sample) → Budgeted (digest s).class
unfolding digest
read_budgeted s = choice Budgeted (flags_of s.flags).class_done (classing_of (class_of_two s.c1 s.c2).shown) NotClassed (classing_budgeted (class_of_two s.c1 s.c2).shown) tt

fault_open : (s : State) → closed (faulted s) ≡ false
fault_open s = choice (λ (x : State). closed x ≡ false) (in_test s) TestError ErrorDelay refl refl

pub move_claims : (p : Port) (s : Sample) → Claimed p (step forced p (digest s))
unfolding enter
move_claims p s =
    step_outcome forced p (digest s) (Claimed p)
    (record {
      disabled = nothing refl refl;
      yields = nothing refl refl;
      stays = ⊎_elim (λ (e : closed p.state ≡ true). holds e e refl refl refl) (λ (e : closed p.state ≡ false). nothing e refl) (passed (closed p.state));
      idle = nothing refl refl;
      detects = λ a. nothing refl refl;
      tests = λ a. forces a a refl refl;
      valid = λ a b. nothing refl refl;
      invalid = λ a. nothing refl refl;
      backs_off = λ a. nothing refl refl;
      classed = λ a k d b. classes a a refl (subst Budgeted b (read_budgeted s));
      over_current = λ a b. nothing refl refl;
      disagrees = λ a b. nothing refl refl;
      short = λ a. nothing (fault_open p.state) refl;
      overload = λ a. nothing (fault_open p.state) refl;
      settles = λ a. holds (ap closed a) refl refl refl (sym (ap in_test a));
      absent = λ a. nothing refl refl;
    })

-- no move latches 12
pub move_denies : (claim : Power) (p : Port) (r : Reading) → p.latches.denied ≡ false → (step claim p r).port.latches.denied ≡ false
unfolding enter join
move_denies claim p r e =
    step_outcome claim p r (λ (m : Moved). m.port.latches.denied ≡ false)
    (record {
      disabled = e;
      yields = e;
      stays = e;
      idle = e;
      detects = λ a. e;
      tests = λ a. e;
      valid = λ a b. simp (or-false, e);
      invalid = λ a. simp (or-false, e);
      backs_off = λ a. simp (or-false, e);
      classed = λ a k d b. e;
      over_current = λ a b. simp (or-false, e);
      disagrees = λ a b. simp (or-false, e);
      short = λ a. simp (or-false, e);
      overload = λ a. simp (or-false, e);
      settles = λ a. e;
      absent = λ a. simp (or-false, e);
    })

-- ---- what the sharing makes of it

-- what a port claims, by the port before the tick and after it
unfoldable pub claim_of : Port → Port → ℕ
claim_of p q = cond (closed p.state) p.demand.0 (cond (is_idle p.state) 154 (budget_of q.class).0)

-- of a port p that moved by m and is then q, its claim ranked r, and kept or not
pub record Shares (p : Port) (m : Moved) (r : ℕ) (kept : Bool) (q : Port) : Type 0 where
  -- closed after exactly if its claim is kept, and with latch 12 exactly if it is shed
  pub closed_after : closed q.state ≡ (ltb r 6 && kept)
  pub denied_after : q.latches.denied ≡ (ltb r 6 && not kept)
  -- "ports closed before the tick .. come first, then those asking"
  pub ranks : r < 6 → r ≡ cond (closed p.state) 0 3 + urgency (priority_of p.control)
  pub claims : r < 6 → m.port.demand.0 ≡ claim_of p q
  -- where it goes, and what it then draws
  pub draws : r < 6 → kept ≡ true → q.demand.0 ≡ m.port.demand.0
  pub enters : r < 6 → kept ≡ true → closed p.state ≡ false → code_of q.state ≡ cond (is_idle p.state) 8 5
  pub leaves : r < 6 → kept ≡ false → code_of q.state ≡ cond (in_test p.state) 9 1

-- the port that settling leaves, where it claims
left_class : (p : Port) → (shed p).port.class ≡ p.class
unfolding shed enter
left_class p = choice (λ (x : Port). x.class ≡ p.class) (in_test p.state) (enter TestError p) (enter Idle p) refl refl

left_code : (p : Port) → code_of (shed p).port.state ≡ cond (in_test p.state) 9 1
unfolding shed enter
left_code p = go (in_test p.state)
  where
    go : (b : Bool) → code_of (cond b (enter TestError p) (enter Idle p)).state ≡ cond b 9 1
    go true = refl
    go false = refl

left_denied : (p : Port) → (shed p).port.latches.denied ≡ true
unfolding shed join
left_denied p = simp or-true

module _ (p : Port) (m : Moved) (control : m.port.control ≡ p.control) (denied : m.port.latches.denied ≡ false) where
  abbrev u : ℕ
  u = urgency (priority_of p.control)

  small : u < 3
  small = urgency_small (priority_of p.control)

  -- it claims nothing
  shares_nothing : closed m.port.state ≡ false → m.asks ≡ false → (kept : Bool) → Shares p m 6 kept (settled 6 kept m).port
  unfolding settled
  shares_nothing e a kept =
      record {
        closed_after = e;
        denied_after = denied;
        ranks = λ h. absurd (omega arith);
        claims = λ h. absurd (omega arith);
        draws = λ h. absurd (omega arith);
        enters = λ h. absurd (omega arith);
        leaves = λ h. absurd (omega arith);
      }

  -- a claim, kept or shed: each case comes to these facts
  shares_so : (r : ℕ) (kept : Bool) (q : Port) → r < 6 → closed q.state ≡ kept → q.latches.denied ≡ not kept
      → r ≡ cond (closed p.state) 0 3 + u
      → m.port.demand.0 ≡ claim_of p m.port → q.class ≡ m.port.class
      → (kept ≡ true → q.demand.0 ≡ m.port.demand.0)
      → (kept ≡ true → closed p.state ≡ false → code_of q.state ≡ cond (is_idle p.state) 8 5)
      → (kept ≡ false → code_of q.state ≡ cond (in_test p.state) 9 1)
      → Shares p m r kept q
  unfolding claim_of
  shares_so r kept q h shut latch place claim class demand enters leaves =
      record {
        closed_after = shut ∙ simp (lt-ltb r 6 h);
        denied_after = latch ∙ simp (lt-ltb r 6 h);
        ranks = λ z. place;
        claims = λ z. claim ∙ ap (λ (k : ℕ). cond (closed p.state) p.demand.0 (cond (is_idle p.state) 154 (budget_of k).0)) (sym class);
        draws = λ z. demand;
        enters = λ z. enters;
        leaves = λ z. leaves;
      }

  -- what the sharing leaves of a claim
  abbrev after : Bool → Port
  after kept = cond kept (cond m.asks (granted m.port.state m.port) m.port) (shed m.port).port

  settled_after : (r : ℕ) → r < 6 → (kept : Bool) → (settled r kept m).port ≡ after kept
  unfolding settled
  settled_after r h true = simp (lt-leb 6 r h)
  settled_after r h false = simp (lt-leb 6 r h)

  shares_shed : (r : ℕ) → r < 6 → r ≡ cond (closed p.state) 0 3 + u → m.port.demand.0 ≡ claim_of p m.port → in_test m.port.state ≡ in_test p.state
      → Shares p m r false (shed m.port).port
  shares_shed r h place claim test =
      shares_so r false (shed m.port).port h (shed_open m.port) (left_denied m.port) place claim (left_class m.port) (λ e. absurd (false≢true e)) (λ e. absurd (false≢true e))
      (λ e. left_code m.port ∙ ap (λ (b : Bool). cond b 9 1) test)

  -- a port that does not ask stays, and one that does enters its state
  stays : m.asks ≡ false → after true ≡ m.port
  stays a = ap (λ (b : Bool). cond b (granted m.port.state m.port) m.port) a

  enters_from : (s : State) → m.port.state ≡ s → m.asks ≡ true → after true ≡ granted s m.port
  enters_from s e a = ap (λ (b : Bool). cond b (granted m.port.state m.port) m.port) a ∙ ap (λ (x : State). granted x m.port) e

  -- a closed port that is still closed
  holding : closed p.state ≡ true → closed m.port.state ≡ true → m.asks ≡ false → m.port.demand ≡ p.demand → in_test m.port.state ≡ in_test p.state
      → (kept : Bool) → Shares p m u kept (after kept)
  unfolding claim_of
  holding e f a d t = both (simp e (omega arith)) (ap (λ (x : Power). x.0) d ∙ simp e)
    where
      both : u ≡ cond (closed p.state) 0 3 + u → m.port.demand.0 ≡ claim_of p m.port → (kept : Bool) → Shares p m u kept (after kept)
      both place claim true =
          subst (Shares p m u true) (sym (stays a))
          (shares_so u true m.port (omega (arith, small)) f denied place claim refl (λ z. refl) (λ z c. absurd (not_both_lem (closed p.state) e c)) (λ z. absurd (true≢false z)))
      both place claim false = shares_shed u (omega (arith, small)) place claim t

  -- an asker, from IDLE or from CLASSIFYING
  asker_ranks : (s : State) → p.state ≡ s → closed s ≡ false → 3 + u ≡ cond (closed p.state) 0 3 + u
  asker_ranks s e o = simp (ap closed e ∙ o)

  asking_from : (s : State) → p.state ≡ s → m.port.state ≡ s → m.asks ≡ true → closed s ≡ false → m.port.demand.0 ≡ claim_of p m.port
      → Shares p m (3 + u) true (granted s m.port) → (kept : Bool) → Shares p m (3 + u) kept (after kept)
  asking_from s e f a o claim so true = subst (Shares p m (3 + u) true) (sym (enters_from s f a)) so
  asking_from s e f a o claim so false = shares_shed (3 + u) (omega (arith, small)) (asker_ranks s e o) claim (ap in_test f ∙ sym (ap in_test e))

  forcing : p.state ≡ Idle → m.port.state ≡ Idle → m.asks ≡ true → m.port.demand ≡ forced → (kept : Bool) → Shares p m (3 + u) kept (after kept)
  unfolding claim_of granted enter
  forcing e f a d =
      let claim : m.port.demand.0 ≡ claim_of p m.port = ap (λ (x : Power). x.0) d ∙ sym (ap (λ (s : State). cond (closed s) p.demand.0 (cond (is_idle s) 154 (budget_of m.port.class).0)) e) in
      asking_from Idle e f a refl claim
      (shares_so (3 + u) true (granted Idle m.port) (omega (arith, small)) refl denied (asker_ranks Idle e refl) claim refl (λ z. refl) (λ z c. sym (ap (λ (s : State). cond (is_idle s) 8 5) e)) (λ z. absurd (true≢false z)))

  classing : p.state ≡ Classifying → m.port.state ≡ Classifying → m.asks ≡ true → m.port.demand ≡ budget_of m.port.class → (kept : Bool) → Shares p m (3 + u) kept (after kept)
  unfolding claim_of granted enter
  classing e f a d =
      let claim : m.port.demand.0 ≡ claim_of p m.port = ap (λ (x : Power). x.0) d ∙ sym (ap (λ (s : State). cond (closed s) p.demand.0 (cond (is_idle s) 154 (budget_of m.port.class).0)) e) in
      asking_from Classifying e f a refl claim
      (shares_so (3 + u) true (granted Classifying m.port) (omega (arith, small)) refl denied (asker_ranks Classifying e refl) claim refl (λ z. refl) (λ z c. sym (ap (λ (s : State). cond (is_idle s) 8 5) e)) (λ z. absurd (true≢false z)))

  -- with the claim's rank as the rule gives it
  ranked : (r : ℕ) → rank p.state m ≡ r → r < 6 → (kept : Bool) → Shares p m r kept (after kept) → Shares p m (rank p.state m) kept (settled (rank p.state m) kept m).port
  ranked r e h kept so =
      subst (λ (k : ℕ). Shares p m k kept (settled k kept m).port) (sym e) (subst (Shares p m r kept) (sym (settled_after r h kept)) so)

  rank_nothing : closed m.port.state ≡ false → m.asks ≡ false → rank p.state m ≡ 6
  unfolding rank
  rank_nothing e a = simp (e, a, and-false)

  rank_holding : closed p.state ≡ true → closed m.port.state ≡ true → rank p.state m ≡ u
  unfolding rank
  rank_holding e f = simp (e, f, control)

  rank_asking : closed p.state ≡ false → m.asks ≡ true → rank p.state m ≡ 3 + u
  unfolding rank
  rank_asking e a = simp (e, a, control)

  pub port_shares : Claimed p m → (kept : Bool) → Shares p m (rank p.state m) kept (settled (rank p.state m) kept m).port
  port_shares (nothing e a) kept = subst (λ (k : ℕ). Shares p m k kept (settled k kept m).port) (sym (rank_nothing e a)) (shares_nothing e a kept)
  port_shares (holds e f a d t) kept = ranked u (rank_holding e f) (omega (arith, small)) kept (holding e f a d t kept)
  port_shares (forces e f a d) kept = ranked (3 + u) (rank_asking (ap closed e) a) (omega (arith, small)) kept (forcing e f a d kept)
  port_shares (classes e f a d) kept = ranked (3 + u) (rank_asking (ap closed e) a) (omega (arith, small)) kept (classing e f a d kept)
