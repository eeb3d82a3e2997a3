-- Bits and fields of a word, as a document numbers them: bit 0 is the lowest.
-- Assumes nothing.
use Rattle.std.specs.Prelude.{ℕ, ◌*◌, ◌/◌, ◌%◌, ◌^◌, Bool, true, false, cond, eqb, leb}

-- bit k of n is 1
unfoldable pub bit : ℕ → ℕ → Bool
bit k n = eqb (n / 2 ^ k % 2) 1

-- the number in the w bits of n that begin at bit k
unfoldable pub field : ℕ → ℕ → ℕ → ℕ
field k w n = n / 2 ^ k % 2 ^ w

-- some bit of n at place k or above is set
unfoldable pub above : ℕ → ℕ → Bool
above k n = leb (2 ^ k) n

-- 1 for a bit that is set
abbrev pub one : Bool → ℕ
one true = 1
one false = 0

-- what a flag counts at place k
abbrev pub place : ℕ → Bool → ℕ
place k b = one b * 2 ^ k

-- what two bits choose among four, in the order of their codes
abbrev pub choose : {X : Type 0} → X → X → X → X → ℕ → X
choose x0 x1 x2 x3 n = cond (eqb n 0) x0 (cond (eqb n 1) x1 (cond (eqb n 2) x2 x3))
