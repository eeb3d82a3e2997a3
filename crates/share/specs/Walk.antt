-- Document 01, "Sharing the supply", as it words it: a walk down the ranking. `Share` says it by sums, and `WalkLaws` proves that
-- the two agree.
use Rattle.std.specs.Prelude.{ℕ, zero, suc, ◌+◌, Bool, cond, List, [], ◌∷◌, ◌++◌, leb, eqb}
use Rattle.lists.specs.Entries.{some}
use Rattle.share.specs.Share.{no_claim}

-- the places below n whose rank is k; "then lower port number"
unfoldable pub of_rank : ℕ → (ℕ → ℕ) → ℕ → List ℕ
of_rank zero rank k = []
of_rank (suc n) rank k = of_rank n rank k ++ cond (eqb (rank n) k) (n ∷ []) []

-- "ports closed before the tick .. come first, then those asking. Within each: critical, high, then low and unknown alike":
-- the places of rank 0, then those of rank 1, and so on below rank k
unfoldable pub ranked_below : ℕ → (ℕ → ℕ) → ℕ → List ℕ
ranked_below n rank zero = []
ranked_below n rank (suc k) = ranked_below n rank k ++ of_rank n rank k

-- "claims are ranked": all places below n that claim
unfoldable pub ranking : ℕ → (ℕ → ℕ) → List ℕ
ranking n rank = ranked_below n rank no_claim

-- "Going down the ranking, claims are kept while the sum of demands is at most the supply. The first that doesn't fit and all
-- after it are shed, smaller ones too.": what is kept of a list, where the demands kept before it add up to `sum`
unfoldable pub walk : (ℕ → ℕ) → ℕ → ℕ → List ℕ → List ℕ
walk demand supply sum [] = []
walk demand supply sum (p ∷ rest) = cond (leb (sum + demand p) supply) (p ∷ walk demand supply (sum + demand p) rest) []

-- the places that are kept, in the ranking's order
unfoldable pub walked : ℕ → (ℕ → ℕ) → (ℕ → ℕ) → ℕ → List ℕ
walked n rank demand supply = walk demand supply 0 (ranking n rank)

-- p is one of some places
unfoldable pub is_in : ℕ → List ℕ → Bool
is_in p places = some (eqb p) places
