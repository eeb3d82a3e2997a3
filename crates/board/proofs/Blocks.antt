-- How a board's samples stand in a block: products with the length of a sample, which differs between boards.
-- Assumes nothing.
use Prim.Native.Nat.{ℕ, ◌+◌, ◌*◌, ◌/◌, ◌≤◌, ◌<◌}
use mathlib.Core.Path.{◌≡◌, sym, subst}
use native.Mathlib.Omega.{arith}
use Rattle.board.specs.Boards.{sample_bytes}
use Rattle.board.specs.declared.Board.{Board}
use Rattle.board.specs.declared.Board.TheVariants.{Access, FourPair}

pub size_least : (board : Board) → 14 ≤ sample_bytes board
size_least Access = omega arith
size_least FourPair = omega arith

pub size_most : (board : Board) → sample_bytes board ≤ 16
size_most Access = omega arith
size_most FourPair = omega arith

-- a port that a block of n bytes has, by the length s of the board's samples: its bytes are within the block
pub within : (board : Board) (s p n : ℕ) → s ≡ sample_bytes board → p < n / s → s * p + s ≤ n
within Access s p n e = subst (λ (x : ℕ). p < n / x → x * p + x ≤ n) (sym e) (λ h. omega (arith, h))
within FourPair s p n e = subst (λ (x : ℕ). p < n / x → x * p + x ≤ n) (sym e) (λ h. omega (arith, h))

-- a block of k samples has k ports
pub ports_in : (board : Board) (n k : ℕ) → n ≡ sample_bytes board * k → n / sample_bytes board ≡ k
ports_in Access n k e = omega (arith, e)
ports_in FourPair n k e = omega (arith, e)

-- and few of them are few bytes
pub few_bytes : (board : Board) (k : ℕ) → sample_bytes board * k ≤ 16 * k
few_bytes Access k = omega arith
few_bytes FourPair k = omega arith
