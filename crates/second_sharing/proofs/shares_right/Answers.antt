-- `shares_right` is the tests of the ports and of the sums. Assumes nothing.
use mathlib.Core.Bool.{and_assoc}
use Rattle.second_sharing.specs.Shared.{shares_right}
use Rattle.second_sharing.proofs.shares_right.Goals as goal

pub returns : goal.returns
unfolding shares_right
returns c = simp (and_assoc, c.ports_right.ensures, c.claim.ensures.0, c.kept_sum-sum.ensures.0, c.first_shed-first.ensures.0)
