-- What the whole steps make of a port, and which port asks.
-- Assumes nothing.
use Rattle.std.proofs.Common.{◌≡◌, ℕ, Bool, false, cond, List, get_or, refl, ap}
use Rattle.lists.specs.Bits.{one}
use Rattle.port.specs.Changes.{quietly}
use Rattle.port.specs.declared.form.Moved.{Moved}
use Rattle.cells.specs.Cells.{port_of}
use Rattle.claims.specs.Claimed.{is_set}
use Rattle.passes.specs.Passes.{whole_move, marked_move, stepped_port}

module _ (lane block l : List ℕ) where
  abbrev pub move : ℕ → Moved
  move p = marked_move (get_or lane p 0) block l p

  abbrev pub asks_at : ℕ → Bool
  asks_at p = (move p).asks

  abbrev pub asking : ℕ → ℕ
  asking p = one (asks_at p)

  pub stepped_is : (p : ℕ) → stepped_port lane block l p ≡ (move p).port
  unfolding stepped_port
  stepped_is p = refl

  -- a port without a mark stays as it is, and asks for nothing
  pub unmarked : (p : ℕ) → get_or lane p 0 ≡ 0 → (stepped_port lane block l p ≡ port_of l p) × (asks_at p ≡ false)
  unfolding stepped_port marked_move
  unmarked p e =
      (ap (λ (k : ℕ). (cond (is_set k) (whole_move block l p) (quietly (port_of l p))).port) e, ap (λ (k : ℕ). (cond (is_set k) (whole_move block l p) (quietly (port_of l p))).asks) e)
