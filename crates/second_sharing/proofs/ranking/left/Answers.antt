-- `left` goes by the state before. Assumes nothing.
use borrow.Author.Tests.{eq-eqb, ne_eqb}
use Rattle.second_sharing.specs.Shared.{left_cell}
use Rattle.second_sharing.proofs.ranking.left.Goals as goal
use Rattle.second_sharing.proofs.ranking.left.Goals.{then-before-state-eq8, else-before-state-eq8}

pub returns : goal.returns
unfolding left_cell
returns c =
    elim c.if-before-state-eq8.branch [
      | then-before-state-eq8 w ↦ simp (w.due-is, eq-eqb _ _ w.if-before-state-eq8.true)
      | else-before-state-eq8 w ↦ simp (w.due-is, ne_eqb _ _ w.if-before-state-eq8.false)
    ]
