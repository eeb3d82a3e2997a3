-- `drawn` is the demand of a closed port. Assumes nothing.
use Rattle.std.proofs.Common.{sym, ◌∙◌, arith}
use Rattle.second_sharing.proofs.drawn.Goals as goal

pub returns-then-is_closed : goal.returns-then-is_closed
returns-then-is_closed c = (simp (sym c.is_closed.ensures ∙ c.if-is_closed.true), omega arith)

pub returns-else-is_closed : goal.returns-else-is_closed
returns-else-is_closed c = (simp (sym c.is_closed.ensures ∙ c.if-is_closed.false), omega arith)
