-- The sum is that of the ports below p, with the change.
use Rattle.std.proofs.Common.{◌≡◌, ◌*◌, ◌≤◌}
use Rattle.lists.specs.Total.{total}
use Rattle.table.specs.Drawn.{draws}
use Rattle.table.specs.Parts.{port_at}
use Rattle.cells.specs.Cells.{table_of}
use Rattle.replies.specs.Calls.{granting}
use Rattle.request.proofs.closed_sum.Given as goal

abbrev pub invariant-loop-p : goal.invariant-loop-p
invariant-loop-p l = (l.sum ≡ total l.p (λ q. draws (port_at (granting l.demand l.at (table_of l.cells)) q))) × (l.sum ≤ l.p * 65535)
