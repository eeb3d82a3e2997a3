-- What a tick answered, and the cells that it left.
-- Assumes nothing.
use Rattle.std.specs.Prelude.{ℕ, ◌+◌, ◌/◌, ◌%◌, Bool, false, not, ◌&&◌, ◌||◌, List, eqb, ltb, get_or, Result, Ok, Err}
use Rattle.sizes.specs.declared.refusals.Refusal.{Refusal}
use Rattle.lists.specs.Bits.{bit}
use Rattle.lists.specs.Count.{count}
use Rattle.lists.specs.Every.{every}
use Rattle.table.specs.declared.form.Closed.{Closed}

abbrev pub agree : Bool → Bool → Bool
agree x y = (x && y) || (not x && not y)

-- "A port is closed exactly in POWER_UP, POWER_ON and TEST_MODE.", by the codes
unfoldable pub closed_cell : List ℕ → ℕ → Bool
closed_cell l p = ltb p (get_or l 0 0) && ((eqb (get_or l (8 + p) 0) 5 || eqb (get_or l (8 + p) 0) 6) || eqb (get_or l (8 + p) 0) 8)

-- "3:2 pair control"
unfoldable pub named_cell : List ℕ → ℕ → ℕ
named_cell l p = get_or l (56 + p) 0 / 4 % 4

-- "bit p set exactly if port p is closed and its control word names that alternative"
unfoldable pub bits_right : List ℕ → ℕ → ℕ → Bool
bits_right l mask alternative = every 64 (λ p. agree (bit p mask) (closed_cell l p && eqb (named_cell l p) alternative))

-- no bit in both
unfoldable pub apart : ℕ → ℕ → Bool
apart a b = every 64 (λ p. not (bit p a && bit p b))

-- "and a number of closed ports equal to the ones in the two masks"
unfoldable pub answer_right : List ℕ → Result Closed Refusal → Bool
answer_right l (Ok x) = ((apart x.a x.b && bits_right l x.a 1) && bits_right l x.b 2) && eqb (count 64 (λ p. bit p x.a) + count 64 (λ p. bit p x.b)) x.number
answer_right l (Err refusal) = false
