-- The access switch's move keeps a port well-made; that settling does is a law of every board (`boards`).
-- Assumes nothing.
use Prim.Native.Nat.{◌≤◌}
use mathlib.Core.Path.{◌≡◌, refl}
use mathlib.Core.Bool.{true, not}
use native.Mathlib.Omega.{arith}
use borrow.Author.Tests.{leb-true}
use Rattle.lists.specs.Entries.{some}
use Rattle.lists.proofs.Tests.{choice}
use Rattle.power.specs.Power.{forced}
use Rattle.class.specs.Class.{is_demand, class_of_two}
use Rattle.class.proofs.Laws.{budget_is_demand, at_most_four, class_of_two_at_most_four}
use Rattle.std.specs.Prelude.{ℕ, Result, Ok, Err}
use Rattle.class.specs.declared.Failure.{Failure}
use Rattle.class.specs.declared.Failure.TheVariants.{OverCurrent, Disagree}
use Rattle.sample.specs.declared.Sample.{Sample}
use Rattle.sample.specs.Sample.{flags_of}
use Rattle.status.specs.declared.Latches.{Latches}
use Rattle.port.specs.Entry.{enter}
use Rattle.port.specs.Changes.{with_class, with_latches}
use Rattle.diagram.specs.Rules.{stressed}
use Rattle.outcomes.proofs.Outcomes.{advanced, counted, faulted, step_outcome}
use Rattle.diagram.specs.Step.{step}
use Rattle.port.specs.declared.form.Classing.{Classing}
use Rattle.port.specs.declared.form.Classing.TheVariants.{NotDone as NotClassed, OverCurrent as ClassedOver, Disagree as ClassedApart, Is as Classed}
use Rattle.port.specs.declared.form.Counts.{Counts}
use Rattle.port.specs.declared.form.Moved.{Moved}
use Rattle.port.specs.declared.form.Port.{Port}
use Rattle.port.specs.declared.form.Reading.{Reading}
use Rattle.port.specs.declared.form.State.{State}
use Rattle.port.specs.declared.form.State.TheVariants.{Disabled, Idle, Detecting, Backoff, Classifying, PowerUp, PowerOn, ErrorDelay, TestMode, TestError}
use Rattle.block.specs.Digest.{classing_of, digest}
use Rattle.table.proofs.WellMadePorts.{WellCounts, Well, up_small, during_small, with_counts_well, with_latches_well, enter_well}

-- a class that was read is a class, with a budget that a port may have
abbrev pub WellClass : Classing → Type 0
WellClass NotClassed = Unit {0}
WellClass ClassedOver = Unit {0}
WellClass ClassedApart = Unit {0}
WellClass (Classed k d) = (k ≤ 4) × (is_demand d ≡ true)

classing_well : (x : Result ℕ Failure) → at_most_four x ≡ true → WellClass (classing_of x)
classing_well (Ok k) e = (leb-true k 4 e, budget_is_demand k)
classing_well (Err OverCurrent) e = tt
classing_well (Err Disagree) e = tt

pub digest_well : (s : Sample) → WellClass (digest s).class
unfolding digest
digest_well s =
    choice WellClass (flags_of s.flags).class_done (classing_of (class_of_two s.c1 s.c2).shown) NotClassed
    (classing_well (class_of_two s.c1 s.c2).shown (class_of_two_at_most_four s.c1 s.c2))
    tt

-- counters that have advanced
stressed_well : (r : Reading) (c : Counts) → WellCounts c → WellCounts (stressed r c)
unfolding stressed
stressed_well r c w = omega (arith, during_small r.limiting c.limiting, during_small r.overload c.overload)

advanced_well : (s : State) (r : Reading) (c : Counts) → WellCounts c → WellCounts (advanced s r c)
unfolding advanced
advanced_well Disabled r c w = w
advanced_well Idle r c w = w
advanced_well Detecting r c w = omega (arith, up_small c.detection)
advanced_well Backoff r c w = omega (arith, up_small c.backoff)
advanced_well Classifying r c w = omega (arith, up_small c.power_on)
advanced_well PowerUp r c w = let v = stressed_well r c w in omega (arith, up_small c.power_on)
advanced_well PowerOn r c w = let v = stressed_well r c w in omega (arith, during_small (not r.load) c.no_load)
advanced_well ErrorDelay r c w = omega (arith, up_small c.error_delay)
advanced_well TestMode r c w = stressed_well r c w
advanced_well TestError r c w = w

forced_demand : is_demand forced ≡ true
unfolding is_demand some
forced_demand = refl

-- a move keeps a port well-made
pub step_well : (p : Port) (r : Reading) → WellClass r.class → Well p → Well (step forced p r).port
step_well p r g w =
    let s = p.state in
    let q = counted s r p in
    let v : Well q = with_counts_well (advanced s r p.counts) p (advanced_well s r p.counts w.counts) w in
    let told : (l : Latches) (t : State) → Well (with_latches l (enter t q)) = λ l t. with_latches_well l (enter t q) (enter_well t q v) in
    step_outcome forced p r (λ (m : Moved). Well m.port)
    (record {
      disabled = enter_well Disabled p w;
      yields = enter_well Idle p w;
      stays = v;
      idle = enter_well Idle q v;
      detects = λ a. enter_well Detecting (with_class 0 p) (record { counts = w.counts; class = omega arith; control = w.control; demand = w.demand });
      tests = λ a. record { counts = w.counts; class = w.class; control = w.control; demand = forced_demand };
      valid = λ a b. told _ Classifying;
      invalid = λ a. told _ Idle;
      backs_off = λ a. told _ Backoff;
      classed = λ a k d e. let b : WellClass (Classed k d) = rw e at g in record { counts = v.counts; class = b.0; control = w.control; demand = b.1 };
      over_current = λ a b. told _ Idle;
      disagrees = λ a b. told _ Idle;
      short = λ a. told _ (faulted s);
      overload = λ a. told _ (faulted s);
      settles = λ a. enter_well PowerOn q v;
      absent = λ a. told _ Idle;
    })
