-- What the third demand asks of its arguments alone.
-- Assumes nothing.
use Rattle.std.specs.Prelude.{ℕ, ◌+◌, ◌*◌, ◌≤◌, ◌≡◌, Bool, true, ◌&&◌, List, leb, ltb, eqb, length, get_or}
use Rattle.lists.specs.Every.{every}

-- flags "15:6 zero": of a port's fourteen bytes the last two, the upper one first
unfoldable pub flags_clear : ℕ → List ℕ → Bool
flags_clear n block = every n (λ p. eqb (get_or block (14 * p + 12) 0) 0 && ltb (get_or block (14 * p + 13) 0) 64)

-- "1 to 48 Type 2 ports", "two supply figures, each within range", one not above the other, and "14 bytes a port" with no reserved flag
unfoldable pub asks : ℕ → List ℕ → ℕ → ℕ → Bool
asks n block less more =
    (leb 1 n && leb n 48) && ((leb less more && leb more 60000) && (eqb (length block) (14 * n) && flags_clear n block))

pub record Asked (n : ℕ) (block : List ℕ) (less more : ℕ) : Type 0 where
  pub one : 1 ≤ n
  pub most : n ≤ 48
  pub le : less ≤ more
  pub range : more ≤ 60000
  pub whole : length block ≡ 14 * n
  pub clear : flags_clear n block ≡ true
