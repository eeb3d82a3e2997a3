-- What follows from the definitions of the table and its calls, for whoever stands above them.
-- Assumes nothing.
use Prim.Native.Nat.{ℕ, ◌≤◌, ◌<◌}
use mathlib.Core.Path.{◌≡◌, sym}
use mathlib.Core.Bool.{true, false, not}
use lib.Dec.{leb}
use borrow.Author.Tests.{leb-true, not-true, not-false}
use Rattle.sizes.specs.Sizes.{most_ports}
use Rattle.lists.proofs.Every.{every_at}
use Rattle.lists.proofs.Tests.{and_left, and_right, not_leb}
use Rattle.power.specs.Power.{at_most, over}
use Rattle.power.specs.declared.Power.{Power}
use Rattle.table.specs.declared.form.Table.{Table}
use Rattle.table.specs.Parts.{port_at}
use Rattle.table.specs.Head.{well_head}
use Rattle.table.proofs.Head.{well_made_is, well_parts}
use Rattle.table.specs.WellMade.{ill_made, well_port, well_made}

-- a table is well-made or ill-made
pub ill_made_lem : (t : Table) → well_made t ≡ false → ill_made t ≡ true
unfolding well_made
ill_made_lem t = not-false (ill_made t)

pub none_ill : (t : Table) → well_made t ≡ true → ill_made t ≡ false
unfolding well_made
none_ill t = not-true (ill_made t)

-- a well-made table has at most 48 ports
pub well_count : (t : Table) → well_made t ≡ true → t.count ≤ most_ports
well_count t e = leb-true t.count most_ports (and_left (leb t.count most_ports) _ (and_right (leb 1 t.count) _ (rw (well_made_is t) at e)))

-- and each port below the count is well-made
pub well_at : (t : Table) → well_made t ≡ true → (p : ℕ) → p < t.count → well_port (port_at t p) ≡ true
well_at t e =
    every_at t.count (λ p. well_port (port_at t p)) (and_right (well_head t.count t.supply) _ (rw (well_parts t) at e))

-- a power that is not at most another is over it
pub over_is : (a b : Power) → over a b ≡ not (at_most a b)
unfolding over at_most
over_is a b = sym (not_leb a.0 b.0)
