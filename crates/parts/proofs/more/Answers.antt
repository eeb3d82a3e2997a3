-- `more` is `more_of`.
use Rattle.std.proofs.Common.{arith}
use Rattle.std.proofs.lemmas.Grind.{common_steps}
use Rattle.parts.specs.Decimal.{is_digit, more_of}
use Rattle.parts.proofs.more.Goals as goal

pub returns-then-not-is_ascii_digit : goal.returns-then-not-is_ascii_digit
unfolding is_digit more_of
returns-then-not-is_ascii_digit c = grind (arith, common_steps)

pub returns-in_err-checked_mul : goal.returns-in_err-checked_mul
unfolding is_digit more_of
returns-in_err-checked_mul c = grind (arith, common_steps)

pub returns : goal.returns
unfolding is_digit more_of
returns c = grind (arith, common_steps)
