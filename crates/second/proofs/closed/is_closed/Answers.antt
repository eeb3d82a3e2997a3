-- `is_closed` reads the state and the count. Assumes nothing.
use Rattle.std.proofs.Common.{rules}
use Rattle.second.specs.Answers.{closed_cell}
use Rattle.second.proofs.closed.is_closed.Goals as goal

pub returns : goal.returns
unfolding closed_cell
returns c = search rules
