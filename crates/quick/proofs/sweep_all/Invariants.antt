use Rattle.quick.proofs.SweepLaws.{Sweeping}
use Rattle.quick.proofs.sweep_all.Given as goal

abbrev pub invariant-loop-p : goal.invariant-loop-p
invariant-loop-p l = Sweeping l.fn.lane l.fn.cells l.p l.cells l.lane l.left
