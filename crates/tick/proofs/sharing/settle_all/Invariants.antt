-- The ports below p have settled, in place.
use Rattle.std.proofs.Common.{◌≡◌}
use Rattle.cells.specs.Cells.{port_of, written}
use Rattle.cells.proofs.Pass.{stage}
use Rattle.passes.specs.Passes.{settled_by}
use Rattle.tick.proofs.sharing.settle_all.Given as goal

abbrev pub invariant-loop-p : goal.invariant-loop-p
invariant-loop-p l = l.cells ≡ written l.n (stage l.p (settled_by l.claims l.kept l.fn.cells) (port_of l.fn.cells)) l.fn.cells
