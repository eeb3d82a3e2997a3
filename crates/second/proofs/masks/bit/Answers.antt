-- `bit` is that of the mask. Assumes nothing.
use Rattle.std.proofs.Common.{refl}
use Rattle.lists.specs.Bits.{bit}
use Rattle.second.proofs.masks.bit.Goals as goal

pub returns : goal.returns
unfolding bit
returns c = refl
