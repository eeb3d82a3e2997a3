-- What is proved of specs/Given.
-- Assumes nothing.
use Prim.Native.Nat.{ℕ, ◌<◌}
use mathlib.Core.Path.{◌≡◌, ap}
use mathlib.Core.List.{List}
use Rattle.sizes.specs.Sizes.{most_ports}
use Rattle.lists.specs.Places.{tabulate}
use Rattle.lists.proofs.Places.{get_d_tabulate}
use Rattle.power.specs.declared.Power.{Power}
use Rattle.share.specs.declared.Claim.{Claim}
use Rattle.share.specs.Share.{keeps}
use Rattle.share.proofs.Laws.{keeps_cong}
use Rattle.share.specs.Given.{rank_of, demand_of}

-- the claims that have a rank and a demand at each place
unfoldable pub claims_of : (ℕ → ℕ) → (ℕ → Power) → List Claim
claims_of rank demand = tabulate most_ports (λ p. record { rank = rank p; demand = demand p })

-- what is kept of them goes by that rank and that demand
pub claims_of_lem : (rank : ℕ → ℕ) (demand : ℕ → Power) (supply p : ℕ) → p < most_ports
    → keeps most_ports (rank_of (claims_of rank demand)) (demand_of (claims_of rank demand)) supply p ≡ keeps most_ports rank (λ q. (demand q).0) supply p
unfolding rank_of demand_of claims_of
claims_of_lem rank demand =
    keeps_cong most_ports (rank_of (claims_of rank demand)) rank (demand_of (claims_of rank demand)) (λ q. (demand q).0)
    (λ q l. ap (λ (c : Claim). c.rank) (get_d_tabulate most_ports (λ p. record { rank = rank p; demand = demand p }) _ q l))
    (λ q l. ap (λ (c : Claim). c.demand.0) (get_d_tabulate most_ports (λ p. record { rank = rank p; demand = demand p }) _ q l))
