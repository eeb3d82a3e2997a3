-- The first statement. "Any table, sample block, control word, frame or number may be handed in. The core answers or refuses with a
-- number from document 01, and each refusal changes no table and writes no byte." Each call has the list of its refusals, in document
-- 01's order: the number given is that of the first entry whose condition holds, and a value is answered exactly if none does.
-- Assumes nothing.
use Rattle.std.specs.Prelude.{ℕ, ◌≡◌, Bool, List, Result, Ok, Err}
use Rattle.sizes.specs.Refused.{number as number_of}
use Rattle.sizes.specs.declared.refusals.Refusal.{Refusal}
use Rattle.lists.specs.Ladder.{ladder}
use Rattle.replies.specs.Calls.{cold_refusals, cold_start, control_refusals, write_control, status_refusals, read_status, request_refusals, request}
use Rattle.passes.specs.Tick.{tick_refusals, tick}
use Rattle.table.specs.declared.form.Table.{Table}
use Rattle.reader.specs.Read.{read_refusals, read_of}
use Rattle.search.specs.Search.{search_refusals, search_of}
use Rattle.writer.specs.Write.{write_refusals, written_of, room_after}
use Rattle.fields.specs.declared.Fields.{Fields}

-- what an answer is: a value, or a refusal's number
pub data Outcome : Type 0 where
  value : Outcome
  number : ℕ → Outcome

-- the first number whose condition holds
abbrev pub first_of : List (ℕ × Bool) → Outcome
first_of rs = ladder rs number value

abbrev pub told : {A : Type 0} → Result A Refusal → Outcome
told (Ok x) = value
told (Err refusal) = number (number_of refusal)

pub record First : Type 0 where
  -- each number is given exactly when document 01's table says, in the order it says
  pub cold : (n : ℕ) → told (cold_start n).answer ≡ first_of (cold_refusals n)
  pub control : (t : Table) (p w : ℕ) → told (write_control t p w).answer ≡ first_of (control_refusals t p w)
  pub status : (t : Table) (p : ℕ) → told (read_status t p).answer ≡ first_of (status_refusals t p)
  pub asked : (t : Table) (p v : ℕ) → told (request t p v).answer ≡ first_of (request_refusals t p v)
  pub ticked : (t : Table) (block : List ℕ) (figure : ℕ) → told (tick t block figure).answer ≡ first_of (tick_refusals t block figure)
  pub searched : (bytes : List ℕ) → told (search_of bytes) ≡ first_of (search_refusals bytes)
  pub read : (bytes : List ℕ) → told (read_of bytes) ≡ first_of (read_refusals bytes)
  pub written : (f : Fields) (room : List ℕ) → told (written_of f room) ≡ first_of (write_refusals f room)
  -- "each refusal changes no table and writes no byte"
  pub control_kept : (t : Table) (p w k : ℕ) → told (write_control t p w).answer ≡ number k → (write_control t p w).table ≡ t
  pub status_kept : (t : Table) (p k : ℕ) → told (read_status t p).answer ≡ number k → (read_status t p).table ≡ t
  pub asked_kept : (t : Table) (p v k : ℕ) → told (request t p v).answer ≡ number k → (request t p v).table ≡ t
  pub ticked_kept : (t : Table) (block : List ℕ) (figure k : ℕ) → told (tick t block figure).answer ≡ number k → (tick t block figure).table ≡ t
  pub written_kept : (f : Fields) (room : List ℕ) (k : ℕ) → told (written_of f room) ≡ number k → room_after f room ≡ room
