-- What the flags show of a reading before it is worked out: the signs by which the quick pass goes.
-- Assumes nothing.
use Prim.Native.Nat.{ℕ}
use mathlib.Core.Path.{◌≡◌, refl}
use mathlib.Core.Bool.{Bool, true, false, cond}
use Rattle.sample.specs.Sample.{flags_of}
use Rattle.std.specs.Prelude.{Result, Ok, Err}
use Rattle.class.specs.declared.Failure.{Failure}
use Rattle.class.specs.declared.Failure.TheVariants.{OverCurrent, Disagree}
use Rattle.sample.specs.declared.Sample.{Sample}
use Rattle.signature.specs.declared.Signature.{Signature}
use Rattle.signature.specs.declared.Signature.TheVariants.{Valid, Invalid, Open}
use Rattle.port.specs.declared.form.Classing.TheVariants.{NotDone as NotClassed}
use Rattle.port.specs.declared.form.Detection.TheVariants.{NotDone}
use Rattle.quick.specs.declared.FlagsShown.{FlagsShown}
use Rattle.quick.proofs.Quick.{is_done, is_classed, signs_of}
use Rattle.block.specs.Digest.{detection_of, classing_of, digest}

unfoldable pub signs_in : ℕ → FlagsShown
signs_in flags =
    record {
      detected = (flags_of flags).detection_done;
      classed = (flags_of flags).class_done;
      settled = (flags_of flags).settled;
      limiting = (flags_of flags).limiting;
      overload = (flags_of flags).overload;
      load = (flags_of flags).load;
    }

done : (b : Bool) (s : Signature) → is_done (cond b (detection_of s) NotDone) ≡ b
done true Valid = refl
done true Invalid = refl
done true Open = refl
done false s = refl

classed : (b : Bool) (k : Result ℕ Failure) → is_classed (cond b (classing_of k) NotClassed) ≡ b
classed true (Ok k) = refl
classed true (Err OverCurrent) = refl
classed true (Err Disagree) = refl
classed false k = refl

pub signs_in_lem : (s : Sample) → signs_of (digest s) ≡ signs_in s.flags
unfolding signs_of digest signs_in
signs_in_lem s = simp (done, classed)
