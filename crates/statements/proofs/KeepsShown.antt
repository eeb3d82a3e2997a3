-- A port in CLASSIFYING has shown a valid signature, and one in POWER_UP or POWER_ON a signature and a class: every move and every
-- settling keeps this, for the third statement.
-- Assumes nothing.
use Prim.Native.Nat.{ℕ}
use mathlib.Core.Path.{◌≡◌, refl, sym, subst}
use mathlib.Core.Bool.{Bool, true, false, cond, ◌&&◌, false≢true}
use lib.Dec.{leb}
use Rattle.std.specs.Prelude.{Result, Ok, Err}
use Rattle.lists.specs.Bits.{bit}
use Rattle.lists.proofs.Tests.{choice}
use Rattle.power.specs.Power.{forced}
use Rattle.power.specs.declared.Power.{Power}
use Rattle.class.specs.Class.{class_of_two}
use Rattle.sample.specs.Sample.{flags_of}
use Rattle.signature.specs.Signature.{signature_of}
use Rattle.class.specs.declared.Failure.{Failure}
use Rattle.class.specs.declared.Failure.TheVariants.{OverCurrent, Disagree}
use Rattle.sample.specs.declared.Sample.{Sample}
use Rattle.signature.specs.declared.Signature.{Signature}
use Rattle.signature.specs.declared.Signature.TheVariants.{Valid as SigValid, Invalid as SigInvalid, Open as SigOpen}
use Rattle.port.specs.Entry.{enter}
use Rattle.port.specs.Changes.{quietly}
use Rattle.port.specs.States.{in_test, is_idle}
use Rattle.share.specs.Share.{no_claim}
use Rattle.settling.specs.Settle.{granted, shed, settled}
use Rattle.outcomes.proofs.Outcomes.{faulted, step_outcome}
use Rattle.diagram.specs.Step.{by_state, step}
use Rattle.port.specs.declared.form.Classing.TheVariants.{NotDone as NotClassed, Is as Classed}
use Rattle.port.specs.declared.form.Detection.TheVariants.{NotDone, Valid}
use Rattle.port.specs.declared.form.Moved.{Moved}
use Rattle.port.specs.declared.form.Port.{Port}
use Rattle.port.specs.declared.form.Reading.{Reading}
use Rattle.port.specs.declared.form.State.{State}
use Rattle.port.specs.declared.form.State.TheVariants.{Disabled, Idle, Detecting, Backoff, Classifying, PowerUp, PowerOn, ErrorDelay, TestMode, TestError}
use Rattle.block.specs.Digest.{detection_of, classing_of, digest}
use Rattle.statements.specs.History.{Shown, nothing, signature, both, is_valid, is_class, shows_signature, gives_class, seen}

-- what a port in a state must have shown
abbrev pub Needs : State → Shown → Type 0
Needs Disabled x = Unit {0}
Needs Idle x = Unit {0}
Needs Detecting x = Unit {0}
Needs Backoff x = Unit {0}
Needs Classifying nothing = ⊥
Needs Classifying signature = Unit {0}
Needs Classifying both = Unit {0}
Needs PowerUp nothing = ⊥
Needs PowerUp signature = ⊥
Needs PowerUp both = Unit {0}
Needs PowerOn nothing = ⊥
Needs PowerOn signature = ⊥
Needs PowerOn both = Unit {0}
Needs ErrorDelay x = Unit {0}
Needs TestMode x = Unit {0}
Needs TestError x = Unit {0}

-- and one that asks from a state
abbrev Asked : State → Shown → Type 0
Asked Disabled x = Unit {0}
Asked Idle x = Unit {0}
Asked Detecting x = Unit {0}
Asked Backoff x = Unit {0}
Asked Classifying x = Needs PowerUp x
Asked PowerUp x = Unit {0}
Asked PowerOn x = Unit {0}
Asked ErrorDelay x = Unit {0}
Asked TestMode x = Unit {0}
Asked TestError x = Unit {0}

-- whoever stands in IDLE needs nothing, whatever it has shown
pub idle_needs : (st : State) (x : Shown) → is_idle st ≡ true → Needs st x
idle_needs Disabled x e = tt
idle_needs Idle x e = tt
idle_needs Detecting x e = tt
idle_needs Backoff x e = tt
idle_needs Classifying x e = absurd (false≢true e)
idle_needs PowerUp x e = absurd (false≢true e)
idle_needs PowerOn x e = absurd (false≢true e)
idle_needs ErrorDelay x e = tt
idle_needs TestMode x e = tt
idle_needs TestError x e = tt

module _ (s : Sample) where
  -- once a signature is shown it stays shown, and so does a class
  sig_kept : (x : Shown) → Needs Classifying x → Needs Classifying (seen s x)
  unfolding seen
  sig_kept nothing n = absurd n
  sig_kept signature n = choice (λ (y : Shown). Needs Classifying y) (gives_class s) both signature tt tt
  sig_kept both n = tt

  class_kept : (x : Shown) → Needs PowerUp x → Needs PowerUp (seen s x)
  unfolding seen
  class_kept nothing n = absurd n
  class_kept signature n = absurd n
  class_kept both n = tt

  on_of_up : (x : Shown) → Needs PowerUp x → Needs PowerOn x
  on_of_up nothing n = n
  on_of_up signature n = n
  on_of_up both n = n

  up_of_on : (x : Shown) → Needs PowerOn x → Needs PowerUp x
  up_of_on nothing n = n
  up_of_on signature n = n
  up_of_on both n = n

  kept : (st : State) (x : Shown) → Needs st x → Needs st (seen s x)
  kept Disabled x n = tt
  kept Idle x n = tt
  kept Detecting x n = tt
  kept Backoff x n = tt
  kept Classifying x n = sig_kept x n
  kept PowerUp x n = class_kept x n
  kept PowerOn x n = on_of_up (seen s x) (class_kept x (up_of_on x n))
  kept ErrorDelay x n = tt
  kept TestMode x n = tt
  kept TestError x n = tt

  -- a sample that shows a signature, or gives a class after one
  sig_seen : shows_signature s ≡ true → (x : Shown) → Needs Classifying (seen s x)
  unfolding seen
  sig_seen e nothing = simp e tt
  sig_seen e signature = choice (λ (y : Shown). Needs Classifying y) (gives_class s) both signature tt tt
  sig_seen e both = tt

  class_seen : gives_class s ≡ true → (x : Shown) → Needs Classifying x → Needs PowerUp (seen s x)
  unfolding seen
  class_seen e nothing n = absurd n
  class_seen e signature n = simp e tt
  class_seen e both n = tt

  -- the digest says valid only if the sample shows a signature, and a class only if it gives one
  valid_shown : (digest s).detection ≡ Valid → shows_signature s ≡ true
  unfolding digest shows_signature
  valid_shown = go (flags_of s.flags).detection_done (signature_of s.v1 s.v2 s.i1 s.i2)
    where
      go : (d : Bool) (g : Signature) → cond d (detection_of g) NotDone ≡ Valid → (d && is_valid g) ≡ true
      go true SigValid e = refl
      go true SigInvalid e = let z : false ≡ true = cc in z
      go true SigOpen e = let z : false ≡ true = cc in z
      go false g e = let z : false ≡ true = cc in z

  class_given : (k : ℕ) (d : Power) → (digest s).class ≡ Classed k d → gives_class s ≡ true
  unfolding digest gives_class
  class_given k d = go (flags_of s.flags).class_done (class_of_two s.c1 s.c2).shown
    where
      go : (b : Bool) (g : Result ℕ Failure) → cond b (classing_of g) NotClassed ≡ Classed k d → (b && is_class g) ≡ true
      go true (Ok j) e = refl
      go true (Err OverCurrent) e = let z : false ≡ true = cc in z
      go true (Err Disagree) e = let z : false ≡ true = cc in z
      go false g e = let z : false ≡ true = cc in z

  -- a move that leaves a port as it may stand, and asks only if it may
  abbrev Right : Shown → Moved → Type 0
  Right y m = Needs m.port.state y × (m.asks ≡ true → Asked m.port.state y)

  -- and one that does not ask
  unasked : (y : Shown) (st : State) → Needs st y → Needs st y × (false ≡ true → Asked st y)
  unasked y st n = (n, λ e. absurd (false≢true e))

  module _ (x : Shown) where
    y : Shown
    y = seen s x

    right_step : (p : Port) → Needs p.state x → Right y (step forced p (digest s))
    unfolding enter y
    right_step p n =
        let stands : Needs p.state y = kept p.state x n in
        let faulty = unasked y (faulted p.state) (choice (λ (st : State). Needs st y) (in_test p.state) TestError ErrorDelay tt tt) in
        step_outcome forced p (digest s) (Right y)
        (record {
          disabled = unasked y Disabled tt;
          yields = unasked y Idle tt;
          stays = unasked y p.state stands;
          idle = unasked y Idle tt;
          detects = λ a. unasked y Detecting tt;
          tests = λ a. (stands, λ e. subst (λ (st : State). Asked st y) (sym a) tt);
          valid = λ a v. unasked y Classifying (sig_seen (valid_shown v) x);
          invalid = λ a. unasked y Idle tt;
          backs_off = λ a. unasked y Backoff tt;
          classed = λ a k d c. (stands, λ e. subst (λ (st : State). Asked st y) (sym a) (class_seen (class_given k d c) x (subst (λ (st : State). Needs st x) a n)));
          over_current = λ a b. unasked y Idle tt;
          disagrees = λ a b. unasked y Idle tt;
          short = λ a. faulty;
          overload = λ a. faulty;
          settles = λ a. unasked y PowerOn (on_of_up y (class_kept x (subst (λ (st : State). Needs st x) a n)));
          absent = λ a. unasked y Idle tt;
        })

    -- an asker that is kept enters its state
    right_granted : (st : State) (p : Port) → p.state ≡ st → Needs p.state y → Asked st y → Needs (granted st p).state y
    unfolding granted enter
    right_granted Disabled p c n a = n
    right_granted Idle p c n a = tt
    right_granted Detecting p c n a = n
    right_granted Backoff p c n a = n
    right_granted Classifying p c n a = a
    right_granted PowerUp p c n a = n
    right_granted PowerOn p c n a = n
    right_granted ErrorDelay p c n a = n
    right_granted TestMode p c n a = n
    right_granted TestError p c n a = n

    right_settled : (r : ℕ) (k : Bool) (m : Moved) → Right y m → Needs (settled r k m).port.state y
    unfolding settled shed enter
    right_settled r k m w =
        choice (λ (z : Moved). Needs z.port.state y) (leb no_claim r) (quietly m.port) _ w.0
        (choice (λ (z : Moved). Needs z.port.state y) k _ (shed m.port)
        (grantee m.asks refl)
        (choice (λ (z : Port). Needs z.state y) (in_test m.port.state) (enter TestError m.port) (enter Idle m.port) tt tt))
      where
        grantee : (a : Bool) → m.asks ≡ a → Needs (cond a (granted m.port.state m.port) m.port).state y
        grantee true e = right_granted m.port.state m.port refl w.0 (w.1 e)
        grantee false e = w.0

  -- a port below the count, before and after a tick on its own sample
  pub tick_needs : (r : ℕ) (k : Bool) (p : Port) (x : Shown) → Needs p.state x → Needs (settled r k (step forced p (digest s))).port.state (seen s x)
  unfolding y
  tick_needs r k p x n = right_settled x r k (step forced p (digest s)) (right_step x p n)

-- the move of a port in IDLE does not look at its sample
is_idle_lem : (st : State) → is_idle st ≡ true → st ≡ Idle
is_idle_lem Disabled e = absurd (false≢true e)
is_idle_lem Idle e = refl
is_idle_lem Detecting e = absurd (false≢true e)
is_idle_lem Backoff e = absurd (false≢true e)
is_idle_lem Classifying e = absurd (false≢true e)
is_idle_lem PowerUp e = absurd (false≢true e)
is_idle_lem PowerOn e = absurd (false≢true e)
is_idle_lem ErrorDelay e = absurd (false≢true e)
is_idle_lem TestMode e = absurd (false≢true e)
is_idle_lem TestError e = absurd (false≢true e)

idle_blind : (p : Port) (r q : Reading) → p.state ≡ Idle → step forced p r ≡ step forced p q
unfolding step by_state
idle_blind p r q e = rw e refl

silent : Sample
silent = record { v1 = 0; v2 = 0; i1 = 0; i2 = 0; c1 = 0; c2 = 0; flags = 0 }

silent_shows : (x : Shown) → seen silent x ≡ x
unfolding silent seen shows_signature gives_class flags_of bit
silent_shows nothing = refl
silent_shows signature = refl
silent_shows both = refl

-- so a port that stood in IDLE needs nothing of it
pub tick_needs_idle : (s : Sample) (r : ℕ) (k : Bool) (p : Port) (x : Shown) → is_idle p.state ≡ true → Needs p.state x → Needs (settled r k (step forced p (digest s))).port.state x
tick_needs_idle s r k p x e n =
    subst (λ (m : Moved). Needs (settled r k m).port.state x) (idle_blind p (digest silent) (digest s) (is_idle_lem p.state e))
    (subst (λ (z : Shown). Needs (settled r k (step forced p (digest silent))).port.state z) (silent_shows x) (tick_needs silent r k p x n))
