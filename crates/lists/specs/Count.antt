-- Places counted, and places marked in a mask: bit p of a mask stands for place p.
-- Assumes nothing.
use Rattle.std.specs.Prelude.{Bool, ℕ}
use Rattle.lists.specs.Bits.{one, place}
use Rattle.lists.specs.Total.{total}

-- how many of the places below n pass the test f
unfoldable pub count : ℕ → (ℕ → Bool) → ℕ
count n f = total n (λ p. one (f p))

-- the number whose bit p is set exactly if p is below n and passes the test f
unfoldable pub mask : ℕ → (ℕ → Bool) → ℕ
mask n f = total n (λ p. place p (f p))
