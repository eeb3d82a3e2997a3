-- What is proved of specs/Ill.
-- Assumes nothing.
use Prim.Native.Nat.{ℕ, ◌+◌}
use mathlib.Core.Path.{◌≡◌, refl, sym, ◌∙◌, ap, ap₂}
use mathlib.Core.Bool.{Bool, true, false, not, ◌&&◌, ◌||◌, not-not}
use mathlib.Core.List.{List}
use lib.Dec.{eqb, leb, ltb}
use lib.ListN.{length, get_or}
use borrow.Author.Tests.{eq-eqb}
use Rattle.lists.specs.Every.{every}
use Rattle.lists.proofs.Tests.{not_leb, not_ltb, not_zero}
use Rattle.power.specs.Power.{at_most}
use Rattle.table.specs.Head.{well_head}
use Rattle.table.specs.WellMade.{ill_port, ill_made, well_port, well_made}
use Rattle.cells.specs.Cells.{cells_long, count_cell, supply_cell, port_of, table_of, port_holds, is_table}
use Rattle.well.specs.Judged.{head_cells, well_cells, port_fine}
use Rattle.well.proofs.Laws.{well_cells_lem}
use Rattle.ill.specs.Ill.{ill_at, ill_cells}

not_and : (a b : Bool) → (not a || b) ≡ not (a && not b)
not_and true b = sym (not-not b)
not_and false b = refl

pub ill_is : (l : List ℕ) → ill_cells l ≡ not (well_cells l)
unfolding ill_cells well_cells well_made
ill_is l = not_and (is_table l) (ill_made (table_of l))

pub ill_at_is : (l : List ℕ) (p : ℕ) → ill_at l p ≡ not (port_fine l p)
unfolding ill_at port_fine well_port
ill_at_is l p = not_and (port_holds l p) (ill_port (port_of l p))

-- the head, and then every port
pub ill_parts : (l : List ℕ) → ill_cells l ≡ not (head_cells l && every (count_cell l) (port_fine l))
ill_parts l = ill_is l ∙ ap not (well_cells_lem l)

-- one of two is not there
pub either_is : (a b : Bool) → (not a || not b) ≡ not (a && b)
either_is true b = refl
either_is false b = refl

-- there are ten states and eight latches
pub holds_not : (l : List ℕ) (p : ℕ) → not (port_holds l p) ≡ (ltb 9 (get_or l (8 + p) 0) || leb 256 (get_or l (200 + p) 0))
unfolding port_holds
holds_not l p = sym (either_is (leb (get_or l (8 + p) 0) 9) (ltb (get_or l (200 + p) 0) 256)) ∙ ap₂ ◌||◌ (not_leb (get_or l (8 + p) 0) 9) (not_ltb (get_or l (200 + p) 0) 256)

three : (a b c : Bool) → ((a || b) || c) ≡ not ((not a && not b) && not c)
three true b c = refl
three false true c = refl
three false false c = sym (not-not c)

-- "port count 0 or over 48; a stored supply over 60,000"
pub head_ill : (l : List ℕ) → length l ≡ cells_long → ((eqb (count_cell l) 0 || ltb 48 (count_cell l)) || ltb 60000 (supply_cell l)) ≡ not (head_cells l)
unfolding head_cells well_head at_most
head_ill l long =
    three (eqb (count_cell l) 0) (ltb 48 (count_cell l)) (ltb 60000 (supply_cell l))
    ∙ simp (eq-eqb _ _ long, not_zero, not_ltb 48, not_ltb 60000)
