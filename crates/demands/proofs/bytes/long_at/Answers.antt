-- `long_at` reads as many bytes as stand there. Assumes nothing.
use Rattle.std.proofs.Common.{◌∙◌, ap}
use Rattle.std.specs.Int.{from_be_bytes, w32}
use Rattle.demands.proofs.Numbers.{long_read}
use Rattle.demands.proofs.bytes.long_at.Goals as goal

pub returns : goal.returns
returns c = c.from_be_bytes.ensures ∙ ap (from_be_bytes w32) c.part.ensures ∙ long_read c.args.bytes.now c.args.at
