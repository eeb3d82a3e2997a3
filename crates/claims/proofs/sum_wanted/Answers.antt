use Rattle.std.proofs.Common.{◌+◌, ◌∙◌, sym, refl, ap₂, arith, get_or}
use Rattle.lists.specs.Total.{total}
use Rattle.lists.proofs.Total.{total_next}
use Rattle.claims.specs.Claimed.{wants}
use Rattle.claims.proofs.sum_wanted.Goals as goal

pub loop-p-init : goal.loop-p-init
unfolding total
loop-p-init c = (refl, omega arith)

pub loop-p-preserved : goal.loop-p-preserved
loop-p-preserved c =
    let l = c.loop-p in
    (ap₂ ◌+◌ l.invariant.0 c.wants_at-sum.ensures.0 ∙ sym (total_next l.p (λ q. wants (get_or c.args.lane.now q 0) c.args.cells.now q)), omega arith)
