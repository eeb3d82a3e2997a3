use Rattle.std.proofs.Common.{replicate}
use Rattle.sizes.specs.Sizes.{most_ports}
use Rattle.lists.specs.Places.{Filled}
use Rattle.cells.specs.Cells.{port_of}
use Rattle.tally.specs.Tally.{side_of}
use Rattle.tally.proofs.sides.Given as goal

abbrev pub invariant-loop-p : goal.invariant-loop-p
invariant-loop-p l = Filled 0 (λ p. side_of (port_of l.cells p)) (replicate most_ports 0) l.p l.lane
