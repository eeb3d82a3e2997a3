-- What is proved of specs/ClassFailures.
-- Assumes nothing.
use Prim.Native.Nat.{ℕ, ◌-◌}
use mathlib.Core.Path.{◌≡◌, refl, sym, ◌∙◌, ap, ap₂}
use mathlib.Core.Bool.{Bool, true, false, cond, not, ◌&&◌, false≢true}
use native.Mathlib.Omega.{arith}
use lib.Dec.{eqb}
use borrow.Author.Tests.{eqb-true}
use Rattle.std.specs.Prelude.{Result, Ok, Err}
use Rattle.power.specs.declared.Power.{Power}
use Rattle.class.specs.Class.{class_of_two}
use Rattle.statements.proofs.Currents.{is_over, is_apart, over_is, apart_is, used_is}
use Rattle.class.specs.declared.Failure.{Failure}
use Rattle.class.specs.declared.Failure.TheVariants.{OverCurrent, Disagree}
use Rattle.sample.specs.Sample.{flags_of}
use Rattle.sample.specs.declared.Sample.{Sample}
use Rattle.control.specs.Control.{enable_of}
use Rattle.enable.specs.Enable.{is_off, is_forced}
use Rattle.status.specs.Status.{no_latches}
use Rattle.status.specs.declared.Latches.{Latches}
use Rattle.port.specs.Changes.{quietly, latch_valid, latch_invalid, latch_short, latch_overload, latch_absent}
use Rattle.port.specs.Entry.{up}
use Rattle.port.specs.States.{code_of}
use Rattle.port.specs.declared.form.Classing.TheVariants.{NotDone as NotClassed}
use Rattle.port.specs.declared.form.Moved.{Moved}
use Rattle.port.specs.declared.form.Port.{Port}
use Rattle.port.specs.declared.form.State.{State}
use Rattle.port.specs.declared.form.State.TheVariants.{Classifying}
use Rattle.diagram.specs.Limits.{classifying_ticks, classifying_ends}
use Rattle.quick.proofs.SweepLaws.{early}
use Rattle.diagram.specs.Rules.{classed, classifying}
use Rattle.diagram.specs.Step.{by_state, step}
use Rattle.outcomes.proofs.Outcomes.{step_outcome}
use Rattle.cells.specs.Codes.{state_of}
use Rattle.cells.proofs.CodeLaws.{state_back}
use Rattle.block.specs.Digest.{classing_of, digest}
use Rattle.statements.specs.ClassFailures.{takes_class, ClassFailures}

-- a latch that a failure of the class sets, and nothing else does
record OfFailure (latch : Latches → Bool) (failed : Result ℕ Failure → Bool) : Type 0 where
  none : latch no_latches ≡ false
  valid : latch latch_valid ≡ false
  invalid : latch latch_invalid ≡ false
  short : latch latch_short ≡ false
  overload : latch latch_overload ≡ false
  absent : latch latch_absent ≡ false
  taken : (e : Result ℕ Failure) (q : Port) → latch (classed (classing_of e) q).latched ≡ failed e

module _ (latch : Latches → Bool) (failed : Result ℕ Failure → Bool) (of : OfFailure latch failed) (claim : Power) (p : Port) (s : Sample) where
  abbrev latched : Bool
  latched = latch (step claim p (digest s)).latched

  abbrev shown : Result ℕ Failure
  shown = (class_of_two s.c1 s.c2).shown

  elsewhere : eqb (code_of p.state) 4 ≡ false → latched ≡ false
  elsewhere h =
      let not-here : p.state ≡ Classifying → ⊥ = λ a. false≢true (sym h ∙ ap (λ (x : State). eqb (code_of x) 4) a) in
      step_outcome claim p (digest s) (λ (m : Moved). latch m.latched ≡ false)
      (record {
        disabled = of.none;
        yields = of.none;
        stays = of.none;
        idle = of.none;
        detects = λ a. of.none;
        tests = λ a. of.none;
        valid = λ a b. of.valid;
        invalid = λ a. of.invalid;
        backs_off = λ a. of.invalid;
        classed = λ a k d b. of.none;
        over_current = λ a b. absurd (not-here a);
        disagrees = λ a b. absurd (not-here a);
        short = λ a. of.short;
        overload = λ a. of.overload;
        settles = λ a. of.none;
        absent = λ a. of.absent;
      })

  -- the rules of a port in CLASSIFYING, down to the reading
  rules : (off forced ends done : Bool) (e : Result ℕ Failure) (a b c q : Port)
      → latch (cond {A = Moved} off (quietly a) (cond (forced && true) (quietly b) (cond ends (quietly c) (classed (cond done (classing_of e) NotClassed) q)))).latched
      ≡ (((not off && not forced) && (not ends && done)) && failed e)
  unfolding classed
  rules true forced ends done e a b c q = of.none
  rules false true ends done e a b c q = of.none
  rules false false true done e a b c q = of.none
  rules false false false false e a b c q = of.none
  rules false false false true e a b c q = of.taken e q

  in_classifying : p.state ≡ Classifying
      → latched ≡ (((not (is_off (enable_of p.control)) && not (is_forced (enable_of p.control))) && (not (classifying_ends (up p.counts.power_on)) && (flags_of s.flags).class_done)) && failed shown)
  unfolding step by_state classifying digest
  in_classifying st =
      rw st
      (rules (is_off (enable_of p.control)) (is_forced (enable_of p.control)) (classifying_ends (up p.counts.power_on)) (flags_of s.flags).class_done shown _ _ _ _)

  latched_is : latched ≡ (takes_class p s && failed shown)
  unfolding takes_class
  latched_is = go (eqb (code_of p.state) 4) refl
    where
      go : (t : Bool) → eqb (code_of p.state) 4 ≡ t → latched ≡ (takes_class p s && failed shown)
      go true e =
          in_classifying (sym (state_back p.state) ∙ ap state_of (eqb-true (code_of p.state) 4 e))
          ∙ simp (e, early (classifying_ticks - 1) p.counts.power_on (omega arith))
      go false e = elsewhere e ∙ simp e

over_taken : (e : Result ℕ Failure) (q : Port) → (classed (classing_of e) q).latched.over_current ≡ is_over e
unfolding classed
over_taken (Ok k) q = refl
over_taken (Err OverCurrent) q = refl
over_taken (Err Disagree) q = refl

apart_taken : (e : Result ℕ Failure) (q : Port) → (classed (classing_of e) q).latched.disagree ≡ is_apart e
unfolding classed
apart_taken (Ok k) q = refl
apart_taken (Err OverCurrent) q = refl
apart_taken (Err Disagree) q = refl

pub class_failures : ClassFailures
class_failures =
    record {
      over_current =
          λ claim p s.
          latched_is (λ l. l.over_current) is_over (record { none = refl; valid = refl; invalid = refl; short = refl; overload = refl; absent = refl; taken = over_taken }) claim p s
          ∙ ap (λ (b : Bool). takes_class p s && b) (over_is s.c1 s.c2);
      disagree =
          λ claim p s.
          latched_is (λ l. l.disagree) is_apart (record { none = refl; valid = refl; invalid = refl; short = refl; overload = refl; absent = refl; taken = apart_taken }) claim p s
          ∙ ap (λ (b : Bool). takes_class p s && b) (apart_is s.c1 s.c2);
      used = used_is;
    }
