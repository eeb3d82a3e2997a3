-- `number_at` reads as many bytes as stand there. Assumes nothing.
use Rattle.std.proofs.Common.{◌∙◌, ap}
use Rattle.std.specs.Int.{from_be_bytes, w64}
use Rattle.demands.proofs.Numbers.{number_read}
use Rattle.demands.proofs.bytes.number_at.Goals as goal

pub returns : goal.returns
returns c = c.from_be_bytes.ensures ∙ ap (from_be_bytes w64) c.part.ensures ∙ number_read c.args.bytes.now c.args.at
