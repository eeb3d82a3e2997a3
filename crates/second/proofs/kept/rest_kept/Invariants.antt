-- Every cell below k is kept.
use Rattle.std.proofs.Common.{◌≡◌, eqb, ◌||◌, get_or}
use Rattle.lists.specs.Every.{every}
use Rattle.second.specs.Untouched.{may_change}
use Rattle.second.proofs.kept.rest_kept.Given as goal

abbrev pub invariant-loop-k : goal.invariant-loop-k
invariant-loop-k l = l.kept ≡ every l.k (λ k. may_change k (get_or l.before 0 0) || eqb (get_or l.after k 0) (get_or l.before k 0))
