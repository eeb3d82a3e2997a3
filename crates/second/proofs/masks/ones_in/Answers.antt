-- `ones_in` counts the bits. Assumes nothing.
use Rattle.second.proofs.Answers.{ones_count}
use Rattle.second.proofs.masks.ones_in.Goals as goal

pub returns : goal.returns
returns c = ones_count c.args.mask c.ranges.mask.fits
