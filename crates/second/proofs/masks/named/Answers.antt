-- `named` reads bits 3:2 of the control word. Assumes nothing.
use Rattle.std.proofs.Common.{rules}
use Rattle.second.specs.Answers.{named_cell}
use Rattle.second.proofs.masks.named.Goals as goal

pub returns : goal.returns
unfolding named_cell
returns c = search rules
