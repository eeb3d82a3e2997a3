-- `is_valid` is document 01's valid signature. Assumes nothing.
use Rattle.std.proofs.Common.{arith}
use Rattle.marks.proofs.Readings.{out_fails, flat_fails, steep, slope_is}
use Rattle.marks.proofs.is_valid.Goals as goal

pub returns-then-v1-v2 : goal.returns-then-v1-v2
returns-then-v1-v2 c = out_fails _ _ _ _ c.if-v1-v2.true

pub returns-then-v2-v1 : goal.returns-then-v2-v1
returns-then-v2-v1 c = flat_fails _ _ _ _ c.if-v2-v1.true

pub overflow_sub-dv : goal.overflow_sub-dv
overflow_sub-dv c = let s = steep c.args.v1 c.args.v2 c.args.i1 c.args.i2 c.if-v2-v1.false in omega (arith, s.0)

pub overflow_sub-di : goal.overflow_sub-di
overflow_sub-di c = let s = steep c.args.v1 c.args.v2 c.args.i1 c.args.i2 c.if-v2-v1.false in omega (arith, s.1)

pub returns : goal.returns
returns c = slope_is _ _ _ _ c.if-v1-v2.false c.if-v2-v1.false
