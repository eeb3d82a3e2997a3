-- `number_at` is its two words. Assumes nothing.
use Rattle.std.proofs.Common.{rules}
use Rattle.history.specs.Decode.{number_at}
use Rattle.history.proofs.bytes.number_at.Goals as goal

pub returns : goal.returns
unfolding number_at
returns c = search rules
