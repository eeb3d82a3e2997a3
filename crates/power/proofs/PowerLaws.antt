-- What is proved of specs/Power.
-- Assumes nothing.
use Prim.Native.Nat.{ℕ, ◌+◌, ◌<◌, ◌^◌}
use mathlib.Core.Path.{◌≡◌, ap}
use native.Mathlib.Omega.{arith}
use Rattle.power.specs.declared.Power.{Power}
use Rattle.power.specs.Power.{sum_of, plus, join}

-- a sum that does not reach the end of its type is the sum
pub plus_exact : (n : ℕ) (p : Power) → n + p.0 < 2 ^ 32 → plus (sum_of n) p ≡ sum_of (n + p.0)
unfolding plus
plus_exact n p h = ap sum_of (omega arith)

pub join_exact : (m n : ℕ) → m + n < 2 ^ 32 → join (sum_of m) (sum_of n) ≡ sum_of (m + n)
unfolding join
join_exact m n h = ap sum_of (omega arith)
