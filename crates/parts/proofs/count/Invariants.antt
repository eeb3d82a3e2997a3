-- The words begun, with those of what is left, are the line's and the one that both have.
use Rattle.std.proofs.Common.{◌≡◌, ◌≤◌, ◌+◌, length, drop}
use Rattle.parts.specs.Words.{words}
use Rattle.parts.proofs.count.Given as goal

abbrev pub invariant-loop-b : goal.invariant-loop-b
invariant-loop-b l = (l.n ≤ l.b-index + 1) × (l.n + length (words (drop l.b-index l.line)) ≡ length (words l.line) + 1)
