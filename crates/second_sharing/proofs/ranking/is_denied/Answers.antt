-- `is_denied` reads bit 5 of the latches and the count. Assumes nothing.
use Rattle.std.proofs.Common.{refl}
use Rattle.lists.specs.Bits.{bit}
use Rattle.second_sharing.specs.Shared.{denied_cell}
use Rattle.second_sharing.proofs.ranking.is_denied.Goals as goal

pub returns : goal.returns
unfolding denied_cell bit
returns c = refl
