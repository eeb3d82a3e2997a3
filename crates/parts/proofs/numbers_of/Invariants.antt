-- The places below i are filled, each with what its word says.
use Rattle.std.proofs.Common.{◌≡◌, true}
use Rattle.std.specs.Prelude.{replicate}
use Rattle.lists.specs.Every.{every}
use Rattle.lists.specs.Places.{Filled}
use Rattle.parts.specs.Decimal.{is_number, value}
use Rattle.parts.specs.Numbers.{asked}
use Rattle.parts.proofs.numbers_of.Given as goal

abbrev pub invariant-loop-i : goal.invariant-loop-i
invariant-loop-i l = (every l.i (λ p. is_number (asked l.line p)) ≡ true) × Filled 0 (λ p. value (asked l.line p)) (replicate 9 0) l.i l.n
