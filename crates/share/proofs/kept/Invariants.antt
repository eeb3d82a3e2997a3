use Rattle.std.proofs.Common.{◌≡◌, false}
use Rattle.sizes.specs.Sizes.{most_ports}
use Rattle.lists.specs.Places.{tabulate, Filled}
use Rattle.power.specs.Power.{sum_of}
use Rattle.share.specs.Given.{rank_of, demand_of}
use Rattle.share.specs.Share.{keeps}
use Rattle.share.proofs.Sums.{in_line}
use Rattle.share.proofs.kept.Given as goal

abbrev pub invariant-loop-p : goal.invariant-loop-p
invariant-loop-p l =
    (l.sums ≡ tabulate 7 (λ k. sum_of (in_line (rank_of l.claims) (demand_of l.claims) l.p k)))
    × Filled false (keeps most_ports (rank_of l.claims) (demand_of l.claims) l.supply.0) l.initial.kept l.p l.kept
