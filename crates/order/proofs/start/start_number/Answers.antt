-- `start_number`: the number of the cells, and then 2. Assumes nothing.
use borrow.Author.Tests.{eq-eqb, ne_eqb}
use Rattle.order.proofs.start.start_number.Goals as goal

pub returns-then-cells-ne728 : goal.returns-then-cells-ne728
returns-then-cells-ne728 c = simp (ne_eqb _ _ c.if-cells-ne728.true)

pub returns-then-ports : goal.returns-then-ports
returns-then-ports c = simp (eq-eqb _ _ c.if-cells-ne728.false, c.if-ports.true)

pub returns : goal.returns
returns c = simp (eq-eqb _ _ c.if-cells-ne728.false, c.if-ports.false)
