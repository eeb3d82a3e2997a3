use Rattle.std.proofs.Common.{◌≡◌, ◌*◌, ◌≤◌}
use Rattle.lists.specs.Total.{total}
use Rattle.third_tests.proofs.Means.{drawn_at}
use Rattle.third_tests.proofs.answers.demands_in.Given as goal

-- the sum of the places so far
abbrev pub invariant-loop-p : goal.invariant-loop-p
invariant-loop-p l = (l.sum ≡ total l.p (drawn_at l.cells l.answer)) × (l.sum ≤ l.p * 65535)
