-- `level` is `level_of`: the value is past the limits before and within its own. Assumes nothing.
use Rattle.std.proofs.Common.{arith}
use Rattle.std.proofs.lemmas.Bool.Decides.{nat_tests}
use Rattle.class.specs.Class.{budget_of, level_of}
use Rattle.order.proofs.power_request.level.Goals as goal

pub returns-in-0-to-38 : goal.returns-in-0-to-38
unfolding level_of budget_of
returns-in-0-to-38 c = grind (arith, nat_tests)

pub returns-in-0-to-64 : goal.returns-in-0-to-64
unfolding level_of budget_of
returns-in-0-to-64 c = grind (arith, nat_tests)

pub returns-in-0-to-129 : goal.returns-in-0-to-129
unfolding level_of budget_of
returns-in-0-to-129 c = grind (arith, nat_tests)

pub returns-in_default : goal.returns-in_default
unfolding level_of budget_of
returns-in_default c = grind (arith, nat_tests)
