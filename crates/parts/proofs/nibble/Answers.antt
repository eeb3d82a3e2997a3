-- `nibble` is `digit_in`: each arm knows on which side of each limit the byte is.
use Rattle.std.proofs.Common.{arith}
use Rattle.std.proofs.lemmas.Bool.Decides.{nat_tests}
use Rattle.parts.specs.Hex.{digit_in, is_hex, nibble_of}
use Rattle.parts.proofs.nibble.Goals as goal

pub returns-in-48-to-57 : goal.returns-in-48-to-57
unfolding digit_in is_hex nibble_of
returns-in-48-to-57 c = grind (arith, nat_tests)

pub returns-in-65-to-70 : goal.returns-in-65-to-70
unfolding digit_in is_hex nibble_of
returns-in-65-to-70 c = grind (arith, nat_tests)

pub returns-in-97-to-102 : goal.returns-in-97-to-102
unfolding digit_in is_hex nibble_of
returns-in-97-to-102 c = grind (arith, nat_tests)

pub returns-in_default : goal.returns-in_default
unfolding digit_in is_hex nibble_of
returns-in_default c = grind (arith, nat_tests)

pub returns-in_default-2 : goal.returns-in_default-2
unfolding digit_in is_hex nibble_of
returns-in_default-2 c = grind (arith, nat_tests)

pub returns-in_default-3 : goal.returns-in_default-3
unfolding digit_in is_hex nibble_of
returns-in_default-3 c = grind (arith, nat_tests)

pub returns-in_default-4 : goal.returns-in_default-4
unfolding digit_in is_hex nibble_of
returns-in_default-4 c = grind (arith, nat_tests)
