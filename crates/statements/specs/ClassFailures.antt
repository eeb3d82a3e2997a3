-- Request [7]: "Status bit 13 latches "class over current" and bit 14 "events disagree"": in which moves, and in no other; and "how many of
-- the two currents it used". By comparisons of the numbers, and not by the reading of two currents.
-- Assumes nothing.
use Rattle.std.specs.Prelude.{ℕ, ◌-◌, ◌≡◌, Bool, cond, not, ◌&&◌, eqb, leb, ltb}
use Rattle.power.specs.declared.Power.{Power}
use Rattle.class.specs.Class.{class_of_two}
use Rattle.sample.specs.Sample.{flags_of}
use Rattle.sample.specs.declared.Sample.{Sample}
use Rattle.control.specs.Control.{enable_of}
use Rattle.enable.specs.Enable.{is_off, is_forced}
use Rattle.port.specs.States.{code_of}
use Rattle.port.specs.declared.form.Port.{Port}
use Rattle.diagram.specs.Limits.{classifying_ticks}
use Rattle.diagram.specs.Step.{step}
use Rattle.block.specs.Digest.{digest}

-- a port takes what its class currents show: it stands in CLASSIFYING (code 4), neither enable rule decides, the power-on counter is not
-- "at 400" with this tick, and class is done
unfoldable pub takes_class : Port → Sample → Bool
takes_class p s =
    (eqb (code_of p.state) 4 && (not (is_off (enable_of p.control)) && not (is_forced (enable_of p.control))))
    && (ltb p.counts.power_on (classifying_ticks - 1) && (flags_of s.flags).class_done)

-- "to 31,000 class 3; to 45,000 class 4"
abbrev pub in_class_four : ℕ → Bool
in_class_four current = ltb 31000 current && leb current 45000

pub record ClassFailures : Type 0 where
  -- "a current above 45,000"
  pub over_current : (claim : Power) (p : Port) (s : Sample) → (step claim p (digest s)).latched.over_current ≡ (takes_class p s && ltb 45000 s.c1)
  -- "a second event that disagrees"; "a second current above 45,000 after a class 4 counts as disagreeing"
  pub disagree : (claim : Power) (p : Port) (s : Sample) → (step claim p (digest s)).latched.disagree ≡ (takes_class p s && (in_class_four s.c1 && not (in_class_four s.c2)))
  pub used : (c1 c2 : ℕ) → (class_of_two c1 c2).used ≡ cond (in_class_four c1) 2 1
