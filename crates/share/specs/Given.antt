-- The claims that the code is given, as the rank and the demand of each place.
-- Assumes nothing.
use Rattle.std.specs.Prelude.{ℕ, List, get_or}
use Rattle.power.specs.Power.{zero_power}
use Rattle.share.specs.declared.Claim.{Claim}

-- what stands at a place that no list has: it is of no place below 48
abbrev none : Claim
none = record { rank = 0; demand = zero_power }

unfoldable pub rank_of : List Claim → ℕ → ℕ
rank_of c p = (get_or c p none).rank

unfoldable pub demand_of : List Claim → ℕ → ℕ
demand_of c p = (get_or c p none).demand.0
