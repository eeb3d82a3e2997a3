-- `next` makes a call and notes what it showed. Assumes nothing.
use Rattle.history.proofs.Running.{noted_as}
use Rattle.history.proofs.next.Goals as goal

pub returns : goal.returns
returns c = record { cells_value = c.call-ticked.ensures.cells_after; shown_value = noted_as _ _ _ _ _ _ c.note.ensures c.call-ticked.ensures.value }
