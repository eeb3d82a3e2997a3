-- What a tick is told of a port by this board's sample.
use Rattle.std.specs.Prelude.{ℕ, cond, Result, Ok, Err}
use Rattle.class.specs.Class.{class_of_two, budget_of}
use Rattle.sample.specs.Sample.{flags_of}
use Rattle.signature.specs.Signature.{signature_of}
use Rattle.class.specs.declared.Failure.{Failure}
use Rattle.class.specs.declared.Failure.TheVariants.{OverCurrent, Disagree}
use Rattle.sample.specs.declared.Sample.{Sample}
use Rattle.signature.specs.declared.Signature.{Signature}
use Rattle.signature.specs.declared.Signature.TheVariants.{Valid, Invalid, Open}
use Rattle.port.specs.declared.form.Classing.{Classing}
use Rattle.port.specs.declared.form.Classing.TheVariants.{NotDone as NotClassed, OverCurrent as ClassedOver, Disagree as ClassedApart, Is as Classed}
use Rattle.port.specs.declared.form.Detection.{Detection}
use Rattle.port.specs.declared.form.Detection.TheVariants.{NotDone, Valid as DetectedValid, Invalid as DetectedInvalid, Open as DetectedOpen}
use Rattle.port.specs.declared.form.Reading.{Reading}

abbrev pub detection_of : Signature → Detection
detection_of Valid = DetectedValid
detection_of Invalid = DetectedInvalid
detection_of Open = DetectedOpen

-- a class with its budget, or which failure
abbrev pub classing_of : Result ℕ Failure → Classing
classing_of (Ok k) = Classed k (budget_of k)
classing_of (Err OverCurrent) = ClassedOver
classing_of (Err Disagree) = ClassedApart

-- the flags say whether detection and class are done; where they are not, their numbers are not looked at
unfoldable pub digest : Sample → Reading
digest s =
    record {
      detection = cond (flags_of s.flags).detection_done (detection_of (signature_of s.v1 s.v2 s.i1 s.i2)) NotDone;
      class = cond (flags_of s.flags).class_done (classing_of (class_of_two s.c1 s.c2).shown) NotClassed;
      settled = (flags_of s.flags).settled;
      limiting = (flags_of s.flags).limiting;
      overload = (flags_of s.flags).overload;
      load = (flags_of s.flags).load;
    }
