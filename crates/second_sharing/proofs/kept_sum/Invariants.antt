use Rattle.std.proofs.Common.{◌≡◌, ◌*◌, ◌≤◌}
use Rattle.lists.specs.Total.{total}
use Rattle.second_sharing.proofs.Shared.{drawn_at}
use Rattle.second_sharing.proofs.kept_sum.Given as goal

-- the sum of the ports so far
abbrev pub invariant-loop-p : goal.invariant-loop-p
invariant-loop-p l = (l.sum ≡ total l.p (drawn_at l.cells)) × (l.sum ≤ l.p * 65535)
