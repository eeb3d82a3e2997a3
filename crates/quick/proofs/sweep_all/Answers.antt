use Rattle.std.proofs.Common.{◌≡◌, arith}
use Rattle.quick.proofs.SweepLaws.{swept_none, swept_more, swept_lane_all, swept_some}
use Rattle.quick.proofs.sweep_all.Goals as goal

pub loop-p-init : goal.loop-p-init
loop-p-init c = swept_none _ _

pub loop-p-preserved : goal.loop-p-preserved
loop-p-preserved c =
    let l = c.loop-p in
    let e = c.sweep_port-mark.ensures in
    rw c.max-left.ensures (swept_more _ _ l.p l.cells l.lane l.left _ _ l.invariant (omega arith) c.told-lane e.value e.cells_after)

pub returns : goal.returns
returns c =
    let e : c.loop-p.p ≡ c.args.n = omega arith in
    let s = rw e at c.loop-p.invariant in
    record { value = swept_some _ _ _ _ _ _ s; cells_after = s.seen; lane_after = swept_lane_all _ _ _ _ _ _ s c.told-lane }
