use Rattle.std.proofs.Common.{◌≡◌, arith}
use Rattle.lists.proofs.Places.{filled_more, filled_over}
use Rattle.cells.specs.Cells.{port_of}
use Rattle.tally.specs.Tally.{side_lane}
use Rattle.tally.proofs.sides.Goals as goal

pub loop-p-preserved : goal.loop-p-preserved
unfolding port_of
loop-p-preserved c = filled_more _ _ _ c.loop-p.p _ _ c.loop-p.invariant (omega arith) c.side_of.ensures

pub returns : goal.returns
unfolding side_lane
returns c =
    let e : c.loop-p.p ≡ c.args.n = omega arith in
    filled_over _ _ _ _ _ _ (rw e at c.loop-p.invariant)
