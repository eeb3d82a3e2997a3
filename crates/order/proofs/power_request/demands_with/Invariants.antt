use Rattle.std.proofs.Common.{◌≡◌, ◌*◌, ◌≤◌}
use Rattle.lists.specs.Total.{total}
use Rattle.order.proofs.Order.{draws_at}
use Rattle.order.proofs.power_request.demands_with.Given as goal

-- the sum of the ports so far
abbrev pub invariant-loop-p : goal.invariant-loop-p
invariant-loop-p l = (l.sum ≡ total l.p (draws_at l.cells l.level l.at)) × (l.sum ≤ l.p * 65535)
