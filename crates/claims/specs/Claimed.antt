-- What ports that have moved claim of the supply: their cells, and a lane that tells who asks.
-- Assumes nothing.
use Rattle.std.specs.Prelude.{ℕ, Bool, cond, not, ◌&&◌, List, ltb, leb, eqb, length, get_or, replicate}
use Rattle.sizes.specs.Sizes.{most_ports}
use Rattle.lists.specs.Places.{tabulate}
use Rattle.lists.specs.Total.{total}
use Rattle.power.specs.Power.{zero_power}
use Rattle.settling.specs.Claim.{rank_in}
use Rattle.share.specs.Share.{no_claim}
use Rattle.share.specs.declared.Claim.{Claim}
use Rattle.cells.specs.Cells.{cells_long, port_of}

-- a number of the lane that says yes
abbrev pub is_set : ℕ → Bool
is_set v = not (eqb v 0)

-- what a port that asks would draw
unfoldable pub wants : ℕ → List ℕ → ℕ → ℕ
wants asks l p = cond (is_set asks) (port_of l p).demand.0 0

-- what a place that claims nothing has
abbrev pub none : Claim
none = record { rank = no_claim; demand = zero_power }

-- the claim of a port: its rank, and its demand
abbrev pub claim_of : List ℕ → List ℕ → ℕ → Claim
claim_of lane l p = record { rank = rank_in (port_of l p).state (port_of l p).control (is_set (get_or lane p 0)); demand = (port_of l p).demand }

-- the claims of the first n; a place past the count has none
unfoldable pub claims_on : ℕ → List ℕ → List ℕ → List Claim
claims_on n lane l = tabulate most_ports (λ p. cond (ltb p n) (claim_of lane l p) none)

-- ---- of any cells, count and lane

-- as many cells as a table has, no more ports than places, and a number for each place
unfoldable pub claimable : ℕ → List ℕ → List ℕ → Bool
claimable n lane l = (eqb (length l) cells_long && leb n most_ports) && eqb (length lane) most_ports

unfoldable pub wanted_in : ℕ → List ℕ → List ℕ → ℕ
wanted_in n lane l = cond (claimable n lane l) (total n (λ p. wants (get_or lane p 0) l p)) 0

unfoldable pub claims_in : ℕ → List ℕ → List ℕ → List Claim
claims_in n lane l = cond (claimable n lane l) (claims_on n lane l) (replicate most_ports none)
