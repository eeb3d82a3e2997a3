-- As many are fine as were looked at exactly if each port below p is.
use Rattle.std.proofs.Common.{◌≡◌, ◌≤◌, eqb}
use Rattle.lists.specs.Every.{every}
use Rattle.well.specs.Judged.{port_fine}
use Rattle.well.proofs.well_made.Given as goal

abbrev pub invariant-loop-p : goal.invariant-loop-p
invariant-loop-p l = (l.fine ≤ l.p) × (eqb l.fine l.p ≡ every l.p (port_fine l.cells))
