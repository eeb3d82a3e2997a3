use Rattle.std.proofs.Common.{replicate}
use Rattle.sizes.specs.Sizes.{most_ports}
use Rattle.lists.specs.Places.{Filled}
use Rattle.claims.specs.Claimed.{none, claim_of}
use Rattle.claims.proofs.claims_at.Given as goal

abbrev pub invariant-loop-p : goal.invariant-loop-p
invariant-loop-p l = Filled none (claim_of l.lane l.cells) (replicate most_ports none) l.p l.claims
