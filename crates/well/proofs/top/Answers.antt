-- The greatest of the seven counters is at most 2,000 exactly if each of them is. Assumes nothing.
use mathlib.Core.Bool.{and_assoc}
use Rattle.table.specs.Head.{well_counts}
use Rattle.cells.specs.Cells.{counts_of}
use Rattle.well.proofs.Laws.{max_small}
use Rattle.well.proofs.top.Goals as goal

pub returns : goal.returns
unfolding well_counts counts_of
returns c = simp (c.max-6.ensures, c.max-5.ensures, c.max-4.ensures, c.max-3.ensures, c.max-2.ensures, c.max.ensures, max_small, and_assoc)
