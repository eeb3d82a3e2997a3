use Rattle.std.proofs.Common.{◌≡◌, true}
use Rattle.lists.specs.Every.{every}
use Rattle.well.specs.Judged.{port_fine}
use Rattle.ill.proofs.ill_table.Given as goal

-- the ports so far are fine
abbrev pub invariant-loop-p : goal.invariant-loop-p
invariant-loop-p l = every l.p (port_fine l.cells) ≡ true
