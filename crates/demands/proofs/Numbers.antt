-- What is proved of specs/Numbers: bytes that are read as one number are the words that stand there, the high one first.
-- Assumes nothing.
use Rattle.std.proofs.Common.{◌≡◌, refl, ◌∙◌, ap, ℕ, ◌+◌, ◌*◌, ◌<◌, Bool, true, false, cond, leb, List, length, get_or, take, drop, replicate, arith}
use Rattle.std.proofs.lemmas.List.{get_or-take, get_or-drop}
use Rattle.std.specs.Int.{from_be_bytes, w16, w32, w64}
use Rattle.lists.specs.Bytes.{word_at}
use Rattle.demands.specs.Numbers.{part_at, pair_at, short_at, long_at, number_at}

module _ (bytes : List ℕ) (at : ℕ) where
  -- a byte of so many that stand there
  byte : (n i k : ℕ) → i < n → at + i ≡ k → get_or (take n (drop at bytes)) i 0 ≡ get_or bytes k 0
  byte n i k h e = get_or-take n (drop at bytes) i 0 h ∙ get_or-drop at bytes i 0 ∙ ap (λ (j : ℕ). get_or bytes j 0) e

  short : (there : Bool) → from_be_bytes w16 (cond there (take 2 (drop at bytes)) (replicate 2 0)) ≡ cond there (word_at bytes at) 0
  unfolding word_at
  short true = omega (arith, byte 2 0 at (omega arith) (omega arith), byte 2 1 (at + 1) (omega arith) refl)
  short false = refl

  long : (there : Bool) → from_be_bytes w32 (cond there (take 4 (drop at bytes)) (replicate 4 0)) ≡ cond there (pair_at bytes at) 0
  unfolding word_at pair_at
  long true = omega (
    arith,
    byte 4 0 at (omega arith) (omega arith),
    byte 4 1 (at + 1) (omega arith) refl,
    byte 4 2 (at + 2) (omega arith) refl,
    byte 4 3 (at + 2 + 1) (omega arith) (omega arith),
  )
  long false = refl

  number : (there : Bool) → from_be_bytes w64 (cond there (take 8 (drop at bytes)) (replicate 8 0)) ≡ cond there (4294967296 * pair_at bytes at + pair_at bytes (at + 4)) 0
  unfolding word_at pair_at
  number true = omega (
    arith,
    byte 8 0 at (omega arith) (omega arith),
    byte 8 1 (at + 1) (omega arith) refl,
    byte 8 2 (at + 2) (omega arith) refl,
    byte 8 3 (at + 2 + 1) (omega arith) (omega arith),
    byte 8 4 (at + 4) (omega arith) refl,
    byte 8 5 (at + 4 + 1) (omega arith) (omega arith),
    byte 8 6 (at + 4 + 2) (omega arith) (omega arith),
    byte 8 7 (at + 4 + 2 + 1) (omega arith) (omega arith),
  )
  number false = refl

  pub short_read : from_be_bytes w16 (part_at 2 bytes at) ≡ short_at bytes at
  unfolding part_at short_at
  short_read = short (leb (at + 2) (length bytes))

  pub long_read : from_be_bytes w32 (part_at 4 bytes at) ≡ long_at bytes at
  unfolding part_at long_at
  long_read = long (leb (at + 4) (length bytes))

  pub number_read : from_be_bytes w64 (part_at 8 bytes at) ≡ number_at bytes at
  unfolding part_at number_at
  number_read = number (leb (at + 8) (length bytes))
