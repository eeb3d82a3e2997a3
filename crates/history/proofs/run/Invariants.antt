use Rattle.std.proofs.Common.{◌-◌, ◌≤◌, length}
use Rattle.history.proofs.Running.{Decoded}
use Rattle.history.proofs.run.Given as goal

-- the calls of the records so far are made
abbrev pub invariant-loop-at : goal.invariant-loop-at
invariant-loop-at l = (l.at ≤ length l.history) × Decoded l.ports l.history l.at l.reached.cells l.reached.shown

abbrev pub decreases-loop-at : goal.decreases-loop-at
decreases-loop-at l = length l.initial.history - l.at
