-- The ports below p have taken their step, and the lane has a 1 for those that ask.
use Rattle.std.proofs.Common.{◌≡◌, ◌-◌, ◌≤◌}
use Rattle.lists.specs.Every.{some_below}
use Rattle.lists.specs.Places.{Filled}
use Rattle.cells.specs.Cells.{port_of, written}
use Rattle.cells.proofs.Pass.{stage}
use Rattle.tick.proofs.Asking.{asks_at, asking}
use Rattle.passes.specs.Passes.{stepped_port}
use Rattle.tick.proofs.steps.steps.Given as goal

abbrev pub invariant-loop-p : goal.invariant-loop-p
invariant-loop-p l =
    (l.p ≤ l.n)
    × (l.cells ≡ written l.n (stage l.p (stepped_port l.fn.lane l.block l.fn.cells) (port_of l.fn.cells)) l.fn.cells)
    × Filled 0 (asking l.fn.lane l.block l.fn.cells) l.fn.lane l.p l.lane
    × (l.some ≡ some_below l.p (asks_at l.fn.lane l.block l.fn.cells))

abbrev pub decreases-loop-p : goal.decreases-loop-p
decreases-loop-p l = l.n - l.p
