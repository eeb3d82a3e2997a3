-- `tick_from` makes a tick and notes what it showed. Assumes nothing.
use Rattle.std.proofs.Common.{◌∙◌, ap, eqb}
use Rattle.history.specs.Lent.{cells_after, ran_on}
use Rattle.history.proofs.LentLaws.{zero_accepted}
use Rattle.history.proofs.Running.{noted_as}
use Rattle.history.specs.declared.TickAnswer.{TickAnswer}
use Rattle.history.proofs.tick_from.Goals as goal

pub returns : goal.returns
unfolding cells_after ran_on
returns c =
    let told = c.tick-answer.ensures in
    record {
      cells_value = told.cells_after;
      shown_value = noted_as _ _ _ _ _ _ c.note.ensures (ap (λ (x : TickAnswer). eqb x.number 0) told.value ∙ zero_accepted _ _ _);
      answer_value = told.value;
    }
