use Rattle.std.proofs.Common.{◌≡◌, ◌*◌}
use Rattle.lists.specs.Count.{mask}
use Rattle.tally.specs.Tally.{is_a, is_b}
use Rattle.tally.proofs.masks.Given as goal

abbrev pub invariant-loop-k : goal.invariant-loop-k
invariant-loop-k l = (l.a ≡ mask (8 * l.k) (is_a l.lane)) × (l.b ≡ mask (8 * l.k) (is_b l.lane))
