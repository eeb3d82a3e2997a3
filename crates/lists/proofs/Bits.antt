-- What is proved of specs/Bits.
-- Assumes nothing.
use Prim.Native.Nat.{ℕ, ◌%◌, ◌^◌, ◌≤◌}
use mathlib.Core.Path.{◌≡◌, refl}
use mathlib.Core.Bool.{Bool, true, false}
use native.Mathlib.Nat.{div-one}
use native.Mathlib.Omega.{arith}
use lib.Dec.{eqb}
use mir.Val.{bool_byte}
use Rattle.lists.specs.Bits.{field, one}

pub one_small : (b : Bool) → one b ≤ 1
one_small true = omega arith
one_small false = omega arith

-- the flag that a number of one bit says
pub one_says : (b : Bool) (n : ℕ) → n ≡ one b → eqb n 1 ≡ b
one_says true n e = rw e
one_says false n e = rw e

-- the lowest bits of a word
pub field_low : (w n : ℕ) → field 0 w n ≡ n % 2 ^ w
unfolding field
field_low w n = simp div-one

-- a flag as a number of the code
pub byte_is : (b : Bool) → bool_byte b ≡ one b
byte_is true = refl
byte_is false = refl

pub byte_small : (b : Bool) → bool_byte b ≤ 1
byte_small true = omega arith
byte_small false = omega arith
