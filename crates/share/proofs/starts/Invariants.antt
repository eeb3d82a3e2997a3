use Rattle.std.proofs.Common.{◌≡◌}
use Rattle.lists.specs.Places.{Filled}
use Rattle.power.specs.Power.{sum_of}
use Rattle.share.specs.Slots.{joined}
use Rattle.share.proofs.starts.Given as goal

abbrev pub invariant-loop-k : goal.invariant-loop-k
invariant-loop-k l = (l.sum ≡ joined l.sums l.k) × Filled (sum_of 0) (joined l.sums) l.initial.before l.k l.before
