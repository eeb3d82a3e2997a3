-- The ports below p are the image's.
use Rattle.load.proofs.Restored.{Put}
use Rattle.load.proofs.put.Given as goal

abbrev pub invariant-loop-p : goal.invariant-loop-p
invariant-loop-p l = Put l.bytes l.p l.cells
