-- Cells that an image holds are as many as a table's. Assumes nothing.
use Rattle.std.proofs.Common.{sym, ◌∙◌}
use Rattle.store.proofs.Saved.{saved_long}
use Rattle.store.proofs.store.Goals as goal

pub returns-in_default : goal.returns-in_default
returns-in_default c = absurd (c.in_default.ensures.cases (saved_long c.args.cells.now (sym c.imageable.ensures ∙ c.if-not-imageable.false)))
