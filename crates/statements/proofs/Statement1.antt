-- What is proved of specs/Statement1.
-- Assumes nothing.
use Prim.Native.Nat.{ℕ}
use mathlib.Core.Path.{◌≡◌, refl}
use mathlib.Core.Bool.{true, false≢true}
use mathlib.Core.List.{List}
use mathlib.Core.Logic.{⊎_elim}
use native.Mathlib.Omega.{arith}
use Rattle.std.specs.Prelude.{Result, Ok, Err}
use Rattle.sizes.specs.Refused.{refused}
use Rattle.sizes.specs.declared.refusals.Refusal.{Refusal}
use Rattle.lists.proofs.Ladder.{ladder_holds, ladder_part}
use Rattle.replies.specs.Calls.{cold_table, cold_refusals, cold_start, control_refusals, write_control, status_refusals, status_at, read_status, request_refusals, request}
use Rattle.table.specs.Parts.{Told, refuse, tells}
use Rattle.boards.specs.Masks.{answered}
use Rattle.passes.specs.Tick.{tick_refusals, tick}
use Rattle.table.specs.declared.form.Closed.{Closed}
use Rattle.table.specs.declared.form.Table.{Table}
use Rattle.reader.specs.Read.{read_refusals, read_of}
use Rattle.search.specs.Search.{search_refusals, search_of}
use Rattle.writer.specs.Write.{write_refusals, written_of, left, room_after}
use Rattle.fields.specs.declared.Fields.{Fields}
use Rattle.statements.specs.History.{accepted}
use Rattle.statements.proofs.Reached.{Stopped, Ran, tick_told_lem}
use Rattle.statements.specs.Statement1.{Outcome, number, value, first_of, told, First}

-- ---- the proofs
abbrev told_of : {A : Type 0} → Told (Result A Refusal) → Outcome
told_of r = told r.answer

cold_out : (n : ℕ) → told (cold_start n).answer ≡ first_of (cold_refusals n)
unfolding cold_start tells refuse
cold_out n = ladder_part told_of (λ k. refuse k (cold_table 0)) _ (cold_refusals n)

control_out : (t : Table) (p w : ℕ) → told (write_control t p w).answer ≡ first_of (control_refusals t p w)
unfolding write_control tells refuse
control_out t p w = ladder_part told_of (λ k. refuse k t) _ (control_refusals t p w)

status_out : (t : Table) (p : ℕ) → told (read_status t p).answer ≡ first_of (status_refusals t p)
unfolding read_status status_at tells refuse
status_out t p = ladder_part told_of (λ k. refuse k t) _ (status_refusals t p)

asked_out : (t : Table) (p v : ℕ) → told (request t p v).answer ≡ first_of (request_refusals t p v)
unfolding request tells refuse
asked_out t p v = ladder_part told_of (λ k. refuse k t) _ (request_refusals t p v)

ticked_out : (t : Table) (block : List ℕ) (figure : ℕ) → told (tick t block figure).answer ≡ first_of (tick_refusals t block figure)
unfolding tick answered tells refuse
ticked_out t block figure = ladder_part told_of (λ k. refuse k t) _ (tick_refusals t block figure)

searched_out : (bytes : List ℕ) → told (search_of bytes) ≡ first_of (search_refusals bytes)
unfolding search_of
searched_out bytes = ladder_part told refused _ (search_refusals bytes)

read_out : (bytes : List ℕ) → told (read_of bytes) ≡ first_of (read_refusals bytes)
unfolding read_of
read_out bytes = ladder_part told refused _ (read_refusals bytes)

written_out : (f : Fields) (room : List ℕ) → told (written_of f room) ≡ first_of (write_refusals f room)
unfolding written_of
written_out f room = ladder_part told refused _ (write_refusals f room)

-- a value is no number
never : (k : ℕ) → value ≡ number k → ⊥
never k e = let z : ◌≡◌ {A = ℕ} 0 1 = cc in omega arith

module _ (t : Table) where
  Kept : {A : Type 0} → Told (Result A Refusal) → Type 0
  Kept r = (k : ℕ) → told r.answer ≡ number k → r.table ≡ t

  kept_told : {A : Type 0} (x : A) (u : Table) → Kept (tells x u)
  unfolding Kept tells
  kept_told x u k e = absurd (never k e)

  kept_refused : (A : Type 0) (j : ℕ) → Kept (refuse {A = A} j t)
  unfolding Kept refuse
  kept_refused A j k e = refl

  control_same : (p w : ℕ) → Kept (write_control t p w)
  unfolding write_control
  control_same p w = ladder_holds Kept (λ k. refuse k t) _ (control_refusals t p w) (kept_refused Unit) (λ c. kept_told tt _)

  asked_same : (p v : ℕ) → Kept (request t p v)
  unfolding request
  asked_same p v = ladder_holds Kept (λ k. refuse k t) _ (request_refusals t p v) (kept_refused Unit) (λ c. kept_told tt _)

  status_same : (p : ℕ) → Kept (read_status t p)
  unfolding read_status status_at
  status_same p = ladder_holds Kept (λ k. refuse k t) _ (status_refusals t p) (kept_refused ℕ) (λ c. kept_told _ _)

ticked_same : (t : Table) (block : List ℕ) (figure k : ℕ) → told (tick t block figure).answer ≡ number k → (tick t block figure).table ≡ t
ticked_same t block figure k e =
    ⊎_elim
    (λ (x : Stopped t (tick t block figure)). x.table)
    (λ (x : Ran t block figure (tick t block figure)). absurd (ran_value (tick t block figure).answer x.answer e))
    (tick_told_lem t block figure)
  where
    ran_value : (a : Result Closed Refusal) → accepted a ≡ true → told a ≡ number k → ⊥
    ran_value (Ok x) p q = never k q
    ran_value (Err refusal) p q = false≢true p

written_same : (f : Fields) (room : List ℕ) (k : ℕ) → told (written_of f room) ≡ number k → room_after f room ≡ room
unfolding room_after
written_same f room k = go (written_of f room)
  where
    go : (w : Result ℕ Refusal) → told w ≡ number k → left w f room ≡ room
    go (Ok n) e = absurd (never k e)
    go (Err refusal) e = refl

pub statement_1 : First
unfolding Kept
statement_1 =
    record {
      cold = cold_out;
      control = control_out;
      status = status_out;
      asked = asked_out;
      ticked = ticked_out;
      searched = searched_out;
      read = read_out;
      written = written_out;
      control_kept = control_same;
      status_kept = status_same;
      asked_kept = asked_same;
      ticked_kept = ticked_same;
      written_kept = written_same;
    }
