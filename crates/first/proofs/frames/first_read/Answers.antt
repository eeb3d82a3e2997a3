-- `first_read` is Held: what `read` answered is what the first statement says. Assumes nothing.
use Rattle.std.proofs.Common.{sym, ◌∙◌, refl}
use Rattle.held.proofs.Held.{answered, refused}
use Rattle.held.proofs.HeldFrames.{held_answered, held_refused}
use Rattle.interface.proofs.Statement1C.{statement_1_c}
use Rattle.first.proofs.frames.first_read.Goals as goal

pub returns-in-Ok : goal.returns-in-Ok
returns-in-Ok c =
    held_answered _ _ c.answered.ensures (c.read_number-read_due.ensures ∙ answered _ _ (statement_1_c.read c.args.bytes.now) _ (sym c.read.ensures ∙ c.in-Ok.is))

pub returns-in-Err : goal.returns-in-Err
returns-in-Err c =
    let due = refused _ _ (statement_1_c.read c.args.bytes.now) c.in-Err.refusal c.args.bytes.now c.args.bytes.now (sym c.read.ensures ∙ c.in-Err.is) (λ h. refl) in
    held_refused _ _ _ c.refused.ensures (c.number.ensures ∙ due.is_first ∙ sym c.read_number-read_due.ensures) (rw c.number.ensures due.some)
