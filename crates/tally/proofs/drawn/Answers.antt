use Rattle.std.proofs.Common.{eq-eqb}
use borrow.Author.Tests.{lt-leb}
use Rattle.tally.specs.Tally.{tallied, drawn_in}
use Rattle.tally.proofs.Tally.{drawn_in_lem}
use Rattle.tally.proofs.drawn.Goals as goal

pub returns-then-n-gt-PORTS : goal.returns-then-n-gt-PORTS
unfolding tallied drawn_in
returns-then-n-gt-PORTS c = simp (eq-eqb _ _ c.in-Some.ensures.cases.long, lt-leb _ _ c.if-n-gt-PORTS.true)

pub returns : goal.returns
returns c =
    let cells = c.in-Some.ensures.cases in
    simp (drawn_in_lem _ _ c.if-n-gt-PORTS.false cells.long) (rw cells.same at c.sum_drawn.ensures.0)
