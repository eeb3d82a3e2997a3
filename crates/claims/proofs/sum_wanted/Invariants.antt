use Rattle.std.proofs.Common.{◌≡◌, ◌*◌, ◌≤◌, get_or}
use Rattle.lists.specs.Total.{total}
use Rattle.claims.specs.Claimed.{wants}
use Rattle.claims.proofs.sum_wanted.Given as goal

abbrev pub invariant-loop-p : goal.invariant-loop-p
invariant-loop-p l = (l.sum ≡ total l.p (λ q. wants (get_or l.lane q 0) l.cells q)) × (l.sum ≤ l.p * 65535)
