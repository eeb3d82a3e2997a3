-- `place` is the number of the kind, the priority and the port. Assumes nothing.
use Rattle.std.proofs.Common.{sym, ◌∙◌, arith}
use Rattle.second_sharing.specs.Shared.{place_cell}
use Rattle.second_sharing.proofs.ranking.place.Goals as goal

pub returns-then-is_closed : goal.returns-then-is_closed
unfolding place_cell
returns-then-is_closed c = (simp (sym c.is_closed.ensures ∙ c.if-is_closed.true) (omega arith), omega arith, omega arith)

pub returns : goal.returns
unfolding place_cell
returns c = (simp (sym c.is_closed.ensures ∙ c.if-is_closed.false) (omega arith), omega arith, omega arith)
