-- What is proved of specs/Slots.
-- Assumes nothing.
use Prim.Native.Nat.{ℕ}
use lib.Dec.{ltb}
use Rattle.share.specs.Share.{sum_where}
use Rattle.share.specs.Slots.{slot_of}

-- the demands of the slots before k
unfoldable pub of_lower : ℕ → (ℕ → ℕ) → (ℕ → ℕ) → ℕ → ℕ
of_lower n rank demand k = sum_where n demand (λ q. ltb (slot_of (rank q)) k)
