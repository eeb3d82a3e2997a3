-- The digits passed are read as n.
use Rattle.std.proofs.Common.{◌≡◌, true, get_or, ◌≤◌}
use Rattle.lists.specs.Every.{every}
use Rattle.parts.specs.Decimal.{is_digit, most}
use Rattle.parts.proofs.Decimal.{Read}
use Rattle.parts.proofs.number_of.Given as goal

abbrev pub invariant-loop-b : goal.invariant-loop-b
invariant-loop-b l = (l.n ≤ most) × (every l.b-index (λ p. is_digit (get_or l.word p 0)) ≡ true) × Read l.word l.b-index l.n
