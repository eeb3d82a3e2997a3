-- `bad_demand` is what `is_demand` is not. Assumes nothing.
use Rattle.std.proofs.Common.{arith}
use Rattle.std.proofs.lemmas.Bool.Decides.{nat_tests}
use Rattle.lists.specs.Entries.{some}
use Rattle.class.specs.Class.{is_demand}
use Rattle.ill.proofs.bad_demand.Goals as goal
use Rattle.ill.proofs.bad_demand.Goals.{in-0, in_default}

pub returns : goal.returns
unfolding is_demand some
returns c = elim c.match-matches.branch [ in-0 w ↦ grind (arith, nat_tests) | in_default w ↦ grind (arith, nat_tests) ]
