-- `is_class` is document 01's class of two currents. Assumes nothing.
use Rattle.marks.proofs.Readings.{class_low, class_twice}
use Rattle.marks.proofs.is_class.Goals as goal

pub returns-then-c1-le31000 : goal.returns-then-c1-le31000
returns-then-c1-le31000 c = class_low _ _ c.if-c1-le31000.true

pub returns : goal.returns
returns c = class_twice _ _ c.if-c1-le31000.false
