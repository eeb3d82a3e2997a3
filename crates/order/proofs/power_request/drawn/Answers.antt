-- `drawn` is the demand of a closed state, by the codes of the three that are. Assumes nothing.
use Rattle.std.proofs.Common.{rules}
use Rattle.cells.proofs.CodeLaws.{closed_code}
use Rattle.order.proofs.power_request.drawn.Goals as goal

pub returns-then-state : goal.returns-then-state
returns-then-state c = (simp (closed_code, c.if-state.true), search rules)

pub returns-else-state : goal.returns-else-state
returns-else-state c = (simp (closed_code, c.if-state.false), search rules)
