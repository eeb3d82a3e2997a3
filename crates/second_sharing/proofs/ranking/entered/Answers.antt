-- `entered` goes by the state before. Assumes nothing.
use borrow.Author.Tests.{eq-eqb, ne_eqb}
use Rattle.second_sharing.specs.Shared.{entered_cell}
use Rattle.second_sharing.proofs.ranking.entered.Goals as goal
use Rattle.second_sharing.proofs.ranking.entered.Goals.{then-before-state-eq1, else-before-state-eq1}

pub returns : goal.returns
unfolding entered_cell
returns c =
    elim c.if-before-state-eq1.branch [
      | then-before-state-eq1 w ↦ simp (c.is_closed.ensures, w.due-is, eq-eqb _ _ w.if-before-state-eq1.true)
      | else-before-state-eq1 w ↦ simp (c.is_closed.ensures, w.due-is, ne_eqb _ _ w.if-before-state-eq1.false)
    ]
