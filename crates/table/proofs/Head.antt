-- What is proved of specs/Head.
-- Assumes nothing.
use mathlib.Core.Path.{◌≡◌, ◌∙◌}
use mathlib.Core.Bool.{not, ◌&&◌, and_assoc, or-false, not-not}
use lib.Dec.{leb}
use Rattle.sizes.specs.Sizes.{most_count, most_ports, most_supply}
use Rattle.lists.specs.Every.{every}
use Rattle.lists.proofs.Every.{nowhere}
use Rattle.lists.specs.Entries.{some}
use Rattle.lists.proofs.Tests.{not_or, not_ltb, not_zero}
use Rattle.power.specs.Power.{at_most, over, highest_supply}
use Rattle.class.specs.Class.{is_demand}
use Rattle.control.specs.Control.{refused}
use Rattle.port.specs.declared.form.Port.{Port}
use Rattle.table.specs.declared.form.Table.{Table}
use Rattle.table.specs.Parts.{port_at}
use Rattle.table.specs.WellMade.{ill_port, ill_made, well_port, well_made}
use Rattle.table.specs.Head.{well_counts, well_head}

pub well_port_is : (p : Port) → well_port p ≡ (well_counts p.counts && (leb p.class 4 && (not (refused p.control) && is_demand p.demand)))
unfolding well_port ill_port well_counts some
well_port_is p = simp (not_or, or-false, and_assoc, not-not, not_ltb most_count, not_ltb 4)

pub well_made_is : (t : Table) → well_made t ≡ (leb 1 t.count && (leb t.count most_ports && (at_most t.supply highest_supply && every t.count (λ p. well_port (port_at t p)))))
unfolding well_made ill_made well_port over at_most
well_made_is t = simp (not_or, or-false, not_zero, not_ltb most_ports, not_ltb most_supply, nowhere)

pub well_parts : (t : Table) → well_made t ≡ (well_head t.count t.supply && every t.count (λ p. well_port (port_at t p)))
unfolding well_head
well_parts t = well_made_is t ∙ simp and_assoc
