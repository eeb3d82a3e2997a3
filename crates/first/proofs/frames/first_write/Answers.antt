-- `first_write` is Held wherever it is asked: what `write` answered, and what it left, are what the first statement says. Assumes nothing.
use Rattle.std.proofs.Common.{◌≡◌, ℕ, true, sym, ◌∙◌, ap}
use Rattle.judge.specs.Alike.{alike}
use Rattle.judge.proofs.Alike.{same_is_alike}
use Rattle.held.proofs.Held.{judged_refusal, not_asked, held_answer, held_refusal, answered}
use Rattle.held.proofs.HeldFrames.{write_is, write_refused}
use Rattle.first.proofs.frames.first_write.Goals as goal

pub returns-then-not-same : goal.returns-then-not-same
returns-then-not-same c =
    let n = not_asked _ _ _ (sym (same_is_alike _ _) ∙ sym c.same.ensures ∙ c.if-not-same.true) in
    record { value = n.0; room_after = n.1 }

pub returns-in-Ok : goal.returns-in-Ok
returns-in-Ok c =
    let a = c.args in
    let told = c.write.ensures in
    let s : alike a.before.now a.room.now ≡ true = sym (same_is_alike _ _) ∙ sym c.same.ensures ∙ c.if-not-same.false in
    let first = c.write_number-write_due.ensures ∙ answered _ _ (write_is a.fields a.room.now) _ (sym told.0 ∙ c.in-Ok.is) in
    let h = held_answer _ s _ _ _ _ _ told.1 c.answered.ensures first in
    record { value = h.0; room_after = h.1 }

pub returns-in-Err : goal.returns-in-Err
returns-in-Err c =
    let a = c.args in
    let told = c.write.ensures in
    let s : alike a.before.now a.room.now ≡ true = sym (same_is_alike _ _) ∙ sym c.same.ensures ∙ c.if-not-same.false in
    let due = write_refused a.fields a.room.now c.in-Err.refusal (sym told.0 ∙ c.in-Err.is) in
    let v = c.refused.ensures ∙ ap (λ (n : ℕ). judged_refusal c.write_number-write_due.result n c.same-in-Err.result) c.number.ensures in
    let h =
    held_refusal _ s _ _ _ _ _ told.1 _ _ _ v c.write_number-write_due.ensures due
    (λ e. c.same-in-Err.ensures ∙ same_is_alike _ _ ∙ ap (alike a.before.now) (told.1 ∙ e) ∙ s) in
    record { value = h.0; room_after = h.1 }
