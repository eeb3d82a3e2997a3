-- `bad_port` is `ill_at`: its tests in the order of the definition. Assumes nothing.
use mathlib.Core.Bool.{or_assoc, or-false}
use Rattle.table.specs.WellMade.{ill_port}
use Rattle.cells.specs.Cells.{port_of}
use Rattle.ill.specs.Ill.{ill_at}
use Rattle.ill.proofs.Ill.{holds_not}
use Rattle.ill.proofs.bad_port.Goals as goal

pub returns : goal.returns
unfolding ill_at ill_port port_of
returns c = simp (c.bad_counter.ensures, c.bad_word.ensures, c.bad_demand.ensures, holds_not, or_assoc, or-false)
