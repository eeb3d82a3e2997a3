-- `urgency` is by the two bits of the priority. Assumes nothing.
use Rattle.std.proofs.Common.{arith}
use Rattle.std.proofs.lemmas.Bool.Decides.{nat_tests}
use Rattle.second_sharing.specs.Shared.{urgency_cell}
use Rattle.second_sharing.proofs.ranking.urgency.Goals as goal

pub returns-in-1 : goal.returns-in-1
unfolding urgency_cell
returns-in-1 c = (simp c.in-1.is, omega arith)

pub returns-in-2 : goal.returns-in-2
unfolding urgency_cell
returns-in-2 c = (simp c.in-2.is, omega arith)

pub returns-in_default : goal.returns-in_default
unfolding urgency_cell
returns-in_default c = (grind (arith, nat_tests), omega arith)
