-- What a pass over the places adds up. Definitions of the code's own steps; what they come to is in `Share`.
use Rattle.std.specs.Prelude.{ℕ, zero, suc, ◌<◌, ◌^◌, Bool, cond, ◌&&◌, List, ltb, eqb, get_or}
use Rattle.sizes.specs.Sizes.{most_ports}
use Rattle.power.specs.Power.{sum_of, join, fits}
use Rattle.power.specs.declared.Power.{Power}
use Rattle.power.specs.declared.Sum.{Sum}
use Rattle.share.specs.Share.{no_claim, sum_where}

-- each demand is a power's number, so that no sum over the places reaches the end of its type
abbrev pub Small : (ℕ → ℕ) → Type 0
Small demand = (p : ℕ) → p < most_ports → demand p < 2 ^ 16

-- a place is kept if it claims and its sum is within the supply
unfoldable pub within : Sum → ℕ → Power → Bool
within s rank supply = ltb rank no_claim && fits s supply

-- the place of a rank's sum: what is no claim has the last
unfoldable pub slot_of : ℕ → ℕ
slot_of rank = cond (ltb rank no_claim) rank no_claim

-- the demands of slot k among the places below n
unfoldable pub of_slot : ℕ → (ℕ → ℕ) → (ℕ → ℕ) → ℕ → ℕ
of_slot n rank demand k = sum_where n demand (λ q. eqb (slot_of (rank q)) k)

-- the first k of a list of sums in one
unfoldable pub joined : List Sum → ℕ → Sum
joined sums zero = sum_of 0
joined sums (suc k) = join (joined sums k) (get_or sums k (sum_of 0))
