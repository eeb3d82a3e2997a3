use Rattle.std.proofs.Common.{◌≡◌, ◌∙◌, sym, ap, refl, add-one, arith, slice_index_or}
use Rattle.lists.proofs.Places.{filled_none, filled_more, filled_all}
use Rattle.power.specs.Power.{sum_of, join}
use Rattle.share.specs.Slots.{joined}
use Rattle.share.proofs.starts.Goals as goal

pub loop-k-init : goal.loop-k-init
unfolding joined
loop-k-init c = (refl, filled_none _ _ _)

pub loop-k-preserved : goal.loop-k-preserved
unfolding joined
loop-k-preserved c =
    let l = c.loop-k in
    let sums = c.args.sums in (
      c.join-sum.ensures ∙ ap (λ s. join s (slice_index_or sums l.k (sum_of 0))) l.invariant.0 ∙ ap (joined sums) (sym (add-one l.k)),
      filled_more _ _ _ _ _ _ l.invariant.1 c.loop-k-test.true l.invariant.0,
    )

pub returns : goal.returns
returns c =
    let e : c.loop-k.k ≡ 7 = omega arith in
    filled_all _ _ _ 7 _ refl (rw e at c.loop-k.invariant.1)
