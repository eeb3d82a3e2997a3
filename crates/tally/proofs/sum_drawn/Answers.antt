use Rattle.std.proofs.Common.{◌+◌, ◌∙◌, sym, refl, ap₂, arith}
use Rattle.lists.specs.Total.{total}
use Rattle.lists.proofs.Total.{total_next}
use Rattle.table.specs.Drawn.{draws}
use Rattle.cells.specs.Cells.{port_of}
use Rattle.tally.specs.Tally.{drawn_on}
use Rattle.tally.proofs.sum_drawn.Goals as goal

pub loop-p-init : goal.loop-p-init
unfolding drawn_on total
loop-p-init c = (refl, omega arith)

pub loop-p-preserved : goal.loop-p-preserved
unfolding drawn_on
loop-p-preserved c =
    let l = c.loop-p in
    let d = c.draws_at-sum.ensures in
    (ap₂ ◌+◌ l.invariant.0 d.0 ∙ sym (total_next l.p (λ p. draws (port_of c.args.cells.now p))), omega arith)
