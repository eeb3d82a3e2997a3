-- The sums are those of the places before the claim, and the demands there are small.
use Rattle.std.proofs.Common.{◌≡◌, ℕ, ◌<◌, ◌^◌}
use Rattle.lists.specs.Places.{tabulate}
use Rattle.power.specs.Power.{sum_of}
use Rattle.share.specs.Given.{rank_of, demand_of}
use Rattle.share.specs.Slots.{of_slot}
use Rattle.share.proofs.rank_sums.Given as goal

abbrev pub invariant-loop-claim : goal.invariant-loop-claim
invariant-loop-claim l =
    (l.sums ≡ tabulate 7 (λ k. sum_of (of_slot l.claim-index (rank_of l.claims) (demand_of l.claims) k)))
    × ((q : ℕ) → q < l.claim-index → demand_of l.claims q < 2 ^ 16)
