-- The tests of `port_fine`, in another order. Assumes nothing.
use Rattle.std.proofs.Common.{◌≡◌, ◌∙◌, Bool, not, ◌&&◌, leb, ltb, ◌+◌, get_or}
use mathlib.Core.Bool.{and_assoc, and_comm}
use Rattle.power.specs.Power.{tenths}
use Rattle.class.specs.Class.{is_demand}
use Rattle.control.specs.Control.{refused}
use Rattle.table.specs.Head.{well_counts}
use Rattle.table.proofs.Head.{well_port_is}
use Rattle.cells.specs.Cells.{counts_of, port_of, port_holds}
use Rattle.well.specs.Judged.{port_fine}
use Rattle.well.proofs.port_fine.Goals as goal

six : (w k r d s t : Bool) → (((((w && k) && r) && d) && s) && t) ≡ ((s && t) && (w && (k && (r && d))))
six w k r d s t = let e : (((((w && k) && r) && d) && s) && t) ≡ ((w && (k && (r && d))) && (s && t)) = simp and_assoc in e ∙ and_comm (w && (k && (r && d))) (s && t)

pub returns : goal.returns
unfolding port_fine port_holds port_of
returns c =
    let a = c.args in
    let l = a.cells.now in
    simp (c.top.ensures, c.control_fine.ensures, c.demand_fine.ensures, well_port_is)
    (six (well_counts (counts_of l a.p)) (leb (get_or l (152 + a.p) 0) 4) (not (refused (get_or l (56 + a.p) 0))) (is_demand (tenths (get_or l (104 + a.p) 0))) (leb (get_or l (8 + a.p) 0) 9) (ltb (get_or l (200 + a.p) 0) 256))
