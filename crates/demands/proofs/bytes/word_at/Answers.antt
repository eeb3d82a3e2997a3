-- `word_at` reads as many bytes as stand there. Assumes nothing.
use Rattle.std.proofs.Common.{◌∙◌, ap}
use Rattle.std.specs.Int.{from_be_bytes, w16}
use Rattle.demands.proofs.Numbers.{short_read}
use Rattle.demands.proofs.bytes.word_at.Goals as goal

pub returns : goal.returns
returns c = c.from_be_bytes.ensures ∙ ap (from_be_bytes w16) c.part.ensures ∙ short_read c.args.bytes.now c.args.at
