-- Rows of our own, in the form of document 01's cases: each limit and constant that its rows leave open, at the limit and one past
-- it, so that a limit that is wrong in a definition and in the code alike is refused.
-- Assumes nothing.
use Rattle.std.specs.Prelude.{List, ◌++◌}
use Rattle.statements.specs.ClassRows.{classes}
use Rattle.statements.specs.Rows.{Row}
use Rattle.statements.specs.ReadingRows.{signatures, powers, samples}
use Rattle.statements.specs.WordRows.{controls, statuses}

unfoldable pub limits : List Row
limits = signatures ++ classes ++ powers ++ controls ++ statuses ++ samples
