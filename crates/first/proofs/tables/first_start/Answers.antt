-- `first_start` is Held wherever it is asked: what `cold_start` answered, and what it left, are what the first statement says. Assumes nothing.
use Rattle.std.proofs.Common.{◌≡◌, ℕ, true, sym, ◌∙◌, ap}
use Rattle.judge.specs.Alike.{alike}
use Rattle.judge.proofs.Alike.{same_is_alike}
use Rattle.held.proofs.Held.{judged_refusal, not_asked, held_answer, held_refusal, answered, refused}
use Rattle.interface.proofs.Statement1C.{statement_1_c}
use Rattle.first.proofs.tables.first_start.Goals as goal

pub returns-then-not-same : goal.returns-then-not-same
returns-then-not-same c =
    let n = not_asked _ _ _ (sym (same_is_alike _ _) ∙ sym c.same.ensures ∙ c.if-not-same.true) in
    record { value = n.0; cells_after = n.1 }

pub returns-in-Ok : goal.returns-in-Ok
returns-in-Ok c =
    let a = c.args in
    let told = c.cold_start.ensures in
    let s : alike a.before.now a.cells.now ≡ true = sym (same_is_alike _ _) ∙ sym c.same.ensures ∙ c.if-not-same.false in
    let first = c.start_number-start_due.ensures ∙ answered _ _ (statement_1_c.cold_start a.cells.now a.ports) _ (sym told.value ∙ c.in-Ok.is) in
    let h = held_answer _ s _ _ _ _ _ told.cells_after c.answered.ensures first in
    record { value = h.0; cells_after = h.1 }

pub returns-in-Err : goal.returns-in-Err
returns-in-Err c =
    let a = c.args in
    let told = c.cold_start.ensures in
    let s : alike a.before.now a.cells.now ≡ true = sym (same_is_alike _ _) ∙ sym c.same.ensures ∙ c.if-not-same.false in
    let due = refused _ _ (statement_1_c.cold_start a.cells.now a.ports) c.in-Err.refusal _ _ (sym told.value ∙ c.in-Err.is) (λ h. statement_1_c.cold_start_kept a.cells.now a.ports h) in
    let v = c.refused.ensures ∙ ap (λ (n : ℕ). judged_refusal c.start_number-start_due.result n c.same-in-Err.result) c.number.ensures in
    let h =
    held_refusal _ s _ _ _ _ _ told.cells_after _ _ _ v c.start_number-start_due.ensures due
    (λ e. c.same-in-Err.ensures ∙ same_is_alike _ _ ∙ ap (alike a.before.now) (told.cells_after ∙ e) ∙ s) in
    record { value = h.0; cells_after = h.1 }
