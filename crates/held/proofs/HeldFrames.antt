-- Every call on a frame is judged to have held.
-- Assumes nothing.
use Prim.Native.Nat.{ℕ, ◌≤◌}
use mathlib.Core.Path.{◌≡◌, refl, sym, ◌∙◌, ap}
use mathlib.Core.Bool.{true}
use mathlib.Core.List.{List}
use Rattle.std.specs.Prelude.{Result, Ok, Err}
use native.Mathlib.Omega.{arith}
use borrow.Author.Tests.{eq-eqb, ne_eqb}
use Rattle.sizes.specs.Refused.{number}
use Rattle.sizes.specs.declared.refusals.Refusal.{Refusal}
use Rattle.verdict.specs.declared.Verdict.{Verdict}
use Rattle.verdict.specs.declared.Verdict.TheVariants.{Held}
use Rattle.writer.specs.Write.{write_refusals, written_of, left, room_after}
use Rattle.fields.specs.declared.Fields.{Fields}
use Rattle.ipaqsuni.specs.Outcome.{number_of}
use Rattle.ipaqsuni.specs.Tlv.{of_write}
use Rattle.interface.specs.Statement1C.{first_number}
use Rattle.interface.proofs.Statement1C.{written_number}
use Rattle.held.proofs.Held.{Due, judged_answer, judged_refusal, refused}

-- where nothing is lent to be written
pub held_answered : (verdict : Verdict) (first : ℕ) → verdict ≡ judged_answer first → first ≡ 0 → verdict ≡ Held
held_answered verdict first v e = simp (v, eq-eqb first 0 e)

pub held_refused : (verdict : Verdict) (first number : ℕ) → verdict ≡ judged_refusal first number true → number ≡ first → 1 ≤ number → verdict ≡ Held
held_refused verdict first number v e some = simp (v, eq-eqb number first e, ne_eqb number 0 (λ z. omega arith))

module _ (f : Fields) (room : List ℕ) where
  number_written : (w : Result ℕ Refusal) → number_of (of_write room w) ≡ number_of w
  number_written (Ok n) = refl
  number_written (Err k) = refl

  pub write_is : number_of (written_of f room) ≡ first_number (write_refusals f room)
  write_is = sym (number_written (written_of f room)) ∙ written_number f room room

  pub write_refused : (k : Refusal) → written_of f room ≡ Err k → Due (first_number (write_refusals f room)) (number k) (room_after f room) room
  unfolding room_after
  write_refused k e = refused (written_of f room) _ write_is k (room_after f room) room e (λ h. ap (λ (w : Result ℕ Refusal). left w f room) e)
