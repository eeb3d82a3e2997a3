-- The cells that a tick may change, and that it changed no other.
-- Assumes nothing.
use Rattle.std.specs.Prelude.{ℕ, ◌-◌, ◌%◌, Bool, cond, ◌&&◌, ◌||◌, List, eqb, leb, ltb, get_or}
use Rattle.lists.specs.Every.{every}

-- the stored figure, or a field of a port below n that is not its control word
unfoldable pub may_change : ℕ → ℕ → Bool
may_change k n = cond (ltb k 8) (eqb k 1) (((ltb k 56 || leb 104 k) && ltb k 584) && ltb ((k - 8) % 48) n)

unfoldable pub rest_kept : List ℕ → List ℕ → Bool
rest_kept l m = every 728 (λ k. may_change k (get_or l 0 0) || eqb (get_or m k 0) (get_or l k 0))
