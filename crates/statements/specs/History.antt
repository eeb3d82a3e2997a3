-- Histories of calls from a cold start, the table that they reach, and what each port showed on the way.
-- Assumes nothing.
use Rattle.std.specs.Prelude.{ℕ, ◌*◌, Bool, true, false, cond, ◌&&◌, List, [], ◌∷◌, Result, Ok, Err}
use Rattle.sizes.specs.Sizes.{sample_bytes}
use Rattle.sizes.specs.declared.refusals.Refusal.{Refusal}
use Rattle.class.specs.Class.{class_of_two}
use Rattle.sample.specs.Sample.{sample_at, flags_of}
use Rattle.signature.specs.Signature.{signature_of}
use Rattle.class.specs.declared.Failure.{Failure}
use Rattle.sample.specs.declared.Sample.{Sample}
use Rattle.signature.specs.declared.Signature.{Signature}
use Rattle.signature.specs.declared.Signature.TheVariants.{Valid, Invalid, Open}
use Rattle.port.specs.States.{is_idle}
use Rattle.replies.specs.Calls.{cold_start, write_control, read_status, request}
use Rattle.table.specs.Parts.{port_at}
use Rattle.passes.specs.Tick.{tick}
use Rattle.table.specs.declared.form.Table.{Table}

-- a call, with what is handed in: any number and any bytes
pub data Call : Type 0 where
  control : ℕ → ℕ → Call
  status : ℕ → Call
  requested : ℕ → ℕ → Call
  ticked : List ℕ → ℕ → Call

-- the table after a call, accepted or refused
unfoldable pub after : Table → Call → Table
after t (control p w) = (write_control t p w).table
after t (status p) = (read_status t p).table
after t (requested p v) = (request t p v).table
after t (ticked block figure) = (tick t block figure).table

-- the table that a history reaches from a cold start of n ports; the latest call stands first
unfoldable pub reached : ℕ → List Call → Table
reached n [] = (cold_start n).table
reached n (c ∷ h) = after (reached n h) c

abbrev pub accepted : {A : Type 0} → Result A Refusal → Bool
accepted (Ok x) = true
accepted (Err refusal) = false

abbrev pub is_valid : Signature → Bool
is_valid Valid = true
is_valid Invalid = false
is_valid Open = false

abbrev pub is_class : Result ℕ Failure → Bool
is_class (Ok k) = true
is_class (Err failure) = false

-- a sample shows a valid signature: detection is done and its numbers read valid
unfoldable pub shows_signature : Sample → Bool
shows_signature s = (flags_of s.flags).detection_done && is_valid (signature_of s.v1 s.v2 s.i1 s.i2)

-- a sample gives a class: class is done and its currents read a class
unfoldable pub gives_class : Sample → Bool
gives_class s = (flags_of s.flags).class_done && is_class (class_of_two s.c1 s.c2).shown

-- what a port has shown since it last stood in IDLE: nothing; a valid signature; a valid signature, and in a later tick a class
pub data Shown : Type 0 where
  nothing : Shown
  signature : Shown
  both : Shown

unfoldable pub seen : Sample → Shown → Shown
seen s nothing = cond (shows_signature s) signature nothing
seen s signature = cond (gives_class s) both signature
seen s both = both

-- what a call adds: an accepted tick's own bytes for the port, unless it stood in IDLE when they were taken
unfoldable pub adds : Table → ℕ → Call → Shown → Shown
adds t p (control q w) x = x
adds t p (status q) x = x
adds t p (requested q v) x = x
adds t p (ticked block figure) x = cond (accepted (tick t block figure).answer) (cond (is_idle (port_at t p).state) x (seen (sample_at block (sample_bytes * p)) x)) x

-- it looks at bytes, and at whether the port stands in IDLE, and at nothing else of the table
unfoldable pub shown : ℕ → ℕ → List Call → Shown
shown n p [] = nothing
shown n p (c ∷ h) = cond (is_idle (port_at (reached n (c ∷ h)) p).state) nothing (adds (reached n h) p c (shown n p h))
