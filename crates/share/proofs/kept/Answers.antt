use Rattle.std.proofs.Common.{◌≡◌, ℕ, ◌<◌, ◌+◌, ◌^◌, ◌∙◌, ap, refl, arith, cond, eqb, slice_set, slice_index_or}
use Rattle.sizes.specs.Sizes.{most_ports}
use Rattle.lists.proofs.Places.{filled_none, filled_more, filled_all}
use Rattle.power.specs.Power.{sum_of, zero_power}
use Rattle.share.specs.Given.{rank_of, demand_of}
use Rattle.share.specs.Slots.{slot_of, within}
use Rattle.share.proofs.Sums.{in_line, line_starts, line_more, more_here, more_at, lower_small, slot_small, turn_kept}
use Rattle.share.proofs.kept.Goals as goal

pub loop-p-init : goal.loop-p-init
loop-p-init c =
    let claims = c.args.claims.now in
    let sums = c.rank_sums.ensures in
    (c.starts-sums.ensures ∙ line_starts (rank_of claims) (demand_of claims) sums.small c.rank_sums.result sums.value, filled_none _ _ _)

pub loop-p-preserved : goal.loop-p-preserved
unfolding rank_of demand_of
loop-p-preserved c =
    let l = c.loop-p in
    let claims = c.args.claims.now in
    let rank = rank_of claims in
    let demand = demand_of claims in
    let small = c.rank_sums.ensures.small in
    let line = in_line rank demand in
    let k = c.slot-k.result in
    let d = (slice_index_or claims l.p record { rank = 0; demand = zero_power }).demand in
    let below : line l.p k + d.0 < 2 ^ 32 =
    omega (arith, lower_small rank demand k small, slot_small l.p rank demand k (omega arith) (λ q h. small q (omega arith)), c.added-sum.ensures.1) in
    let step : (j : ℕ) → j < 7 → line (l.p + 1) j ≡ line l.p j + cond (eqb k j) d.0 0 = λ j o. line_more rank demand l.p k j c.slot-k.ensures.0 in
    let here : c.added-sum.result ≡ sum_of (line (l.p + 1) (slot_of (rank l.p))) =
    c.added-sum.ensures.0
    ∙ more_here 7 (line l.p) (line (l.p + 1)) k d c.slot-k.ensures.1 below step l.sums l.invariant.0
    ∙ ap (λ i. sum_of (line (l.p + 1) i)) c.slot-k.ensures.0 in (
      ap (slice_set l.sums k) c.added-sum.ensures.0
          ∙ more_at 7 (line l.p) (line (l.p + 1)) k d c.slot-k.ensures.1 below step l.sums l.invariant.0,
      filled_more _ _ _ _ _ _ l.invariant.1 (omega arith)
          (c.within.ensures ∙ ap (λ s. within s (rank l.p) c.args.supply) here ∙ turn_kept most_ports rank demand c.args.supply l.p (omega arith)),
    )

pub returns : goal.returns
returns c =
    let e : c.loop-p.p ≡ most_ports = omega arith in
    filled_all _ _ _ most_ports _ refl (rw e at c.loop-p.invariant.1)
