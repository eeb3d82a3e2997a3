-- The word looked for stands after the spaces that are left of what is left of the line.
use Rattle.std.proofs.Common.{◌≡◌, drop}
use Rattle.parts.specs.Words.{word_at}
use Rattle.parts.proofs.start.Given as goal

abbrev pub invariant-loop-i : goal.invariant-loop-i
invariant-loop-i l = word_at (drop l.i l.line) l.left ≡ word_at l.line l.spaces
