-- The head and the ports below p are written.
use Rattle.std.proofs.Common.{◌+◌, ◌*◌}
use Rattle.cells.specs.Cells.{table_of}
use Rattle.image.specs.Image.{image_port}
use Rattle.store.proofs.Written.{Written}
use Rattle.store.proofs.put.Given as goal

abbrev pub invariant-loop-p : goal.invariant-loop-p
invariant-loop-p l = Written (table_of l.cells) (6 + image_port * l.p) l.room
