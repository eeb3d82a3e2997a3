use Rattle.std.proofs.Common.{◌+◌, ◌∙◌, sym, ap, arith, below_more, below_none, cond, eqb, slice_set}
use Rattle.lists.specs.Places.{tabulate}
use Rattle.share.specs.Given.{rank_of, demand_of}
use Rattle.share.specs.Slots.{of_slot}
use Rattle.share.proofs.Sums.{more_at, slot_more, slot_none, slot_small}
use Rattle.share.proofs.rank_sums.Goals as goal

pub loop-claim-init : goal.loop-claim-init
unfolding tabulate
loop-claim-init c = (simp slot_none, below_none _)

pub loop-claim-preserved : goal.loop-claim-preserved
unfolding rank_of demand_of
loop-claim-preserved c =
    let l = c.loop-claim in
    let claims = c.args.claims.now in
    let rank = rank_of claims in
    let demand = demand_of claims in
    let k = c.slot-k.result in (
      ap (slice_set l.sums k) c.added.ensures.0
          ∙ more_at 7 (of_slot l.claim-index rank demand) (of_slot (l.claim-index + 1) rank demand) k _ c.slot-k.ensures.1
          (omega (arith, slot_small l.claim-index rank demand k (omega arith) l.invariant.1, c.added.ensures.1))
          (λ j o.
          slot_more l.claim-index rank demand j
          ∙ ap (λ s. of_slot l.claim-index rank demand j + cond (eqb s j) (demand l.claim-index) 0) (sym c.slot-k.ensures.0))
          l.sums l.invariant.0,
      below_more _ _ l.invariant.1 c.added.ensures.1,
    )
