-- What the walk holds after k limits.
-- Assumes nothing.
use Rattle.class.proofs.Limits.{Walked}
use Rattle.class.proofs.class_of.Given as goal

abbrev pub invariant-loop-k : goal.invariant-loop-k
invariant-loop-k l = Walked l.class l.k l.current
