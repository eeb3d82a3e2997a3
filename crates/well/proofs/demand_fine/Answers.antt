-- The constants are the budgets of classes 1 to 4. Assumes nothing.
use mathlib.Core.Bool.{or_assoc, or-false}
use Rattle.lists.specs.Entries.{some}
use Rattle.class.specs.Class.{is_demand}
use Rattle.well.proofs.demand_fine.Goals as goal

pub returns : goal.returns
unfolding is_demand some
returns c = simp (or_assoc, or-false)
