-- `glyph` is `glyph_of`.
use Rattle.std.proofs.Common.{arith}
use Rattle.std.proofs.lemmas.Bool.Decides.{nat_tests}
use Rattle.parts.specs.Hex.{glyph_of}
use Rattle.text.proofs.glyph.Goals as goal

pub returns-then-n-lt10 : goal.returns-then-n-lt10
unfolding glyph_of
returns-then-n-lt10 c = grind (arith, nat_tests)

pub returns-else-n-lt10 : goal.returns-else-n-lt10
unfolding glyph_of
returns-else-n-lt10 c = grind (arith, nat_tests)
