-- `first_search` is Held: what `search` answered is what the first statement says. Assumes nothing.
use Rattle.std.proofs.Common.{sym, ◌∙◌, refl}
use Rattle.held.proofs.Held.{answered, refused}
use Rattle.held.proofs.HeldFrames.{held_answered, held_refused}
use Rattle.interface.proofs.Statement1C.{statement_1_c}
use Rattle.first.proofs.frames.first_search.Goals as goal

pub returns-in-Ok : goal.returns-in-Ok
returns-in-Ok c =
    held_answered _ _ c.answered.ensures (c.search_number-search_due.ensures ∙ answered _ _ (statement_1_c.find c.args.pdu.now) _ (sym c.search.ensures ∙ c.in-Ok.is))

pub returns-in-Err : goal.returns-in-Err
returns-in-Err c =
    let due = refused _ _ (statement_1_c.find c.args.pdu.now) c.in-Err.refusal c.args.pdu.now c.args.pdu.now (sym c.search.ensures ∙ c.in-Err.is) (λ h. refl) in
    held_refused _ _ _ c.refused.ensures (c.number.ensures ∙ due.is_first ∙ sym c.search_number-search_due.ensures) (rw c.number.ensures due.some)
