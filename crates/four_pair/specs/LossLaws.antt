-- What is proved of the cable loss at each request, in proofs/Loss: the request's two rules of its table.
-- Assumes nothing.
use Rattle.std.specs.Prelude.{ℕ, ◌*◌, ◌≤◌, ◌<◌}
use Rattle.four_pair.specs.FourPair.{through, loss_of}

-- "4000p - p² at least 4000x"
abbrev pub Reaches : Type 0
Reaches = (x : ℕ) → x ≤ 510 → 4000 * x ≤ through (loss_of x)

-- "the smallest p": no smaller one reaches the request
abbrev pub Smallest : Type 0
Smallest = (x q : ℕ) → x ≤ 510 → q < loss_of x → through q < 4000 * x

-- "never decreasing"
abbrev pub Rises : Type 0
Rises = (x y : ℕ) → x ≤ y → y ≤ 510 → loss_of x ≤ loss_of y
