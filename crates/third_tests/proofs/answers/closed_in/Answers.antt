-- `closed_in` looks at both masks. Assumes nothing.
use Rattle.std.proofs.Common.{refl}
use Rattle.lists.specs.Bits.{bit}
use Rattle.third_tests.proofs.answers.closed_in.Goals as goal

pub returns : goal.returns
unfolding bit
returns c = refl
