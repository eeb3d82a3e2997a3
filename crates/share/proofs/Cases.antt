-- What is proved of specs/Cases.
-- Assumes nothing.
use Prim.Native.Nat.{ℕ}
use mathlib.Core.Path.{◌≡◌, refl}
use mathlib.Core.Bool.{true, false}
use mathlib.Core.List.{List, [], ◌∷◌}
use lib.ListN.{get_or}
use Rattle.lists.specs.Total.{total}
use Rattle.lists.specs.Places.{tabulate}
use Rattle.share.specs.Share.{no_claim, claims, before, met, sum_where, down, keeps}
use Rattle.share.specs.Walk.{of_rank, ranked_below, ranking, walk, walked}
use Rattle.share.specs.Cases.{three_kept}

pub at_300 : three_kept 300 ≡ true ∷ false ∷ false ∷ []
unfolding three_kept tabulate keeps down sum_where total met before claims
at_300 = refl

pub at_348 : three_kept 348 ≡ true ∷ true ∷ true ∷ []
unfolding three_kept tabulate keeps down sum_where total met before claims
at_348 = refl

pub at_0 : three_kept 0 ≡ false ∷ false ∷ false ∷ []
unfolding three_kept tabulate keeps down sum_where total met before claims
at_0 = refl

-- one short of all, and the last is shed
pub at_347 : three_kept 347 ≡ true ∷ true ∷ false ∷ []
unfolding three_kept tabulate keeps down sum_where total met before claims
at_347 = refl

-- the places that the walk down the ranking keeps of the same three
unfoldable pub three_walked : ℕ → List ℕ
three_walked supply = walked 3 (λ p. 2) (λ p. get_or (154 ∷ 154 ∷ 40 ∷ []) p 0) supply

pub walked_at_300 : three_walked 300 ≡ 0 ∷ []
unfolding three_walked walked walk ranking ranked_below of_rank
walked_at_300 = refl

pub walked_at_348 : three_walked 348 ≡ 0 ∷ 1 ∷ 2 ∷ []
unfolding three_walked walked walk ranking ranked_below of_rank
walked_at_348 = refl

pub walked_at_0 : three_walked 0 ≡ []
unfolding three_walked walked walk ranking ranked_below of_rank
walked_at_0 = refl

-- the lower rank first, "then lower port number", and no place that claims nothing
pub ranked : ranking 4 (λ p. get_or (3 ∷ 0 ∷ no_claim ∷ 0 ∷ []) p 0) ≡ 1 ∷ 3 ∷ 0 ∷ []
unfolding ranking ranked_below of_rank
ranked = refl
