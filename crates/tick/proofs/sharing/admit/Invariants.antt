-- The askers below p have entered their states, in place.
use Rattle.std.proofs.Common.{◌≡◌}
use Rattle.cells.specs.Cells.{port_of, written}
use Rattle.cells.proofs.Pass.{stage}
use Rattle.passes.specs.Passes.{admitted_by}
use Rattle.tick.proofs.sharing.admit.Given as goal

abbrev pub invariant-loop-p : goal.invariant-loop-p
invariant-loop-p l = l.cells ≡ written l.n (stage l.p (admitted_by l.lane l.fn.cells) (port_of l.fn.cells)) l.fn.cells
