use Rattle.std.proofs.Common.{◌≡◌, ◌*◌, ◌≤◌}
use Rattle.tally.specs.Tally.{drawn_on}
use Rattle.tally.proofs.sum_drawn.Given as goal

abbrev pub invariant-loop-p : goal.invariant-loop-p
invariant-loop-p l = (l.sum ≡ drawn_on l.p l.cells) × (l.sum ≤ l.p * 65535)
