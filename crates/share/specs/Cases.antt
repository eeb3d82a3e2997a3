-- Document 01, "Sixteen cases": "Supply 300, closed ports 0, 1, 2 of equal priority with 154, 154, 40: port 0 stays, 1 and 2 go;
-- at 348 all stay; at 0 none." Of the sums and of the walk. Assumes nothing.
use Rattle.std.specs.Prelude.{ℕ, Bool, List, [], ◌∷◌, get_or}
use Rattle.lists.specs.Places.{tabulate}
use Rattle.share.specs.Share.{keeps}

-- what a supply keeps of three places of one rank
unfoldable pub three_kept : ℕ → List Bool
three_kept supply = tabulate 3 (keeps 3 (λ p. 2) (λ p. get_or (154 ∷ 154 ∷ 40 ∷ []) p 0) supply)
