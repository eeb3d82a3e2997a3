-- What a pass over the cells counts of the closed ports: a number for each side, eight of them weighed at once, and the masks that they are.
-- Assumes nothing.
use Rattle.std.specs.Prelude.{ℕ, ◌+◌, ◌*◌, ◌<◌, ◌≡◌, Bool, cond, ◌&&◌, List, eqb, leb, ltb, length, get_or}
use Rattle.std.specs.Int.Count.{ones}
use Rattle.sizes.specs.Sizes.{most_ports}
use Rattle.lists.specs.Bits.{one}
use Rattle.lists.specs.Count.{mask}
use Rattle.lists.specs.Places.{tabulate}
use Rattle.lists.specs.Total.{total}
use Rattle.control.specs.Control.{pair_of}
use Rattle.port.specs.States.{closed}
use Rattle.port.specs.declared.form.Port.{Port}
use Rattle.port.specs.declared.form.State.{State}
use Rattle.table.specs.Drawn.{draws}
use Rattle.table.specs.declared.form.Closed.{Closed}
use Rattle.boards.specs.Masks.{names_a, names_b}
use Rattle.cells.specs.Cells.{cells_long, port_of}

-- a port that a mask names
abbrev pub on_a : State → ℕ → Bool
on_a s w = closed s && names_a (pair_of w)

abbrev pub on_b : State → ℕ → Bool
on_b s w = closed s && names_b (pair_of w)

-- a closed port counts 1 on alternative A, and 256 on B
unfoldable pub side_in : State → ℕ → ℕ
side_in s w = one (on_a s w) + 256 * one (on_b s w)

abbrev pub side_of : Port → ℕ
side_of x = side_in x.state x.control

-- the side of each of the first n ports, and none past them
unfoldable pub side_lane : ℕ → List ℕ → List ℕ
side_lane n l = tabulate most_ports (λ p. cond (ltb p n) (side_of (port_of l p)) 0)

-- a number of such a lane: 0, 1 or 256
abbrev pub Side : ℕ → Type 0
Side v = v ≡ one (eqb v 1) + 256 * one (eqb v 256)

abbrev pub Sided : List ℕ → Type 0
Sided lane = (p : ℕ) → p < most_ports → Side (get_or lane p 0)

-- eight of them in one number
unfoldable pub weighed : List ℕ → ℕ → ℕ
weighed lane p =
    get_or lane p 0 + get_or lane (p + 1) 0 * 2 + get_or lane (p + 2) 0 * 4 + get_or lane (p + 3) 0 * 8 + get_or lane (p + 4) 0 * 16
    + get_or lane (p + 5) 0 * 32 + get_or lane (p + 6) 0 * 64 + get_or lane (p + 7) 0 * 128

abbrev pub is_a : List ℕ → ℕ → Bool
is_a lane p = eqb (get_or lane p 0) 1

abbrev pub is_b : List ℕ → ℕ → Bool
is_b lane p = eqb (get_or lane p 0) 256

-- the masks that a lane of sides is, and how many ports they name
unfoldable pub named : List ℕ → Closed
named lane = let a : ℕ = mask most_ports (is_a lane) in let b : ℕ = mask most_ports (is_b lane) in record { a = a; b = b; number = ones a + ones b }

-- ---- what is answered of cells and a count

-- as many cells as a table has, and no more ports than places
unfoldable pub tallied : ℕ → List ℕ → Bool
tallied n l = eqb (length l) cells_long && leb n most_ports

-- what the closed ports draw
unfoldable pub drawn_on : ℕ → List ℕ → ℕ
drawn_on n l = total n (λ p. draws (port_of l p))

unfoldable pub drawn_in : ℕ → List ℕ → ℕ
drawn_in n l = cond (tallied n l) (drawn_on n l) 0

abbrev pub none : Closed
none = record { a = 0; b = 0; number = 0 }

-- of what is no table of so many ports no port is named
unfoldable pub closed_in : ℕ → List ℕ → List ℕ → Closed
closed_in n l lane = cond (tallied n l && eqb (length lane) most_ports) (named (side_lane n l)) none

unfoldable pub sides_in : ℕ → List ℕ → List ℕ → List ℕ
sides_in n l lane = cond (tallied n l && eqb (length lane) most_ports) (side_lane n l) lane
