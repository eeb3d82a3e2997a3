-- Document 01, "Sharing the supply", over any move: "After every port has moved, claims are ranked", and each is kept or shed. What a
-- board's samples make of a port is the board's own; what follows is alike on all.
use Rattle.std.specs.Prelude.{ℕ, Bool, cond, ltb}
use Rattle.sizes.specs.Sizes.{most_ports}
use Rattle.lists.specs.Places.{tabulate}
use Rattle.power.specs.Power.{zero_power}
use Rattle.power.specs.declared.Power.{Power}
use Rattle.status.specs.Status.{no_latches, join}
use Rattle.status.specs.declared.Latches.{Latches}
use Rattle.port.specs.declared.form.Moved.{Moved}
use Rattle.port.specs.declared.form.Port.{Port}
use Rattle.settling.specs.Settle.{rank, settled}
use Rattle.share.specs.Share.{no_claim, keeps}
use Rattle.table.specs.Parts.{port_at}
use Rattle.table.specs.declared.form.Table.{Table}

-- a table, and the move of the port at each place below the count
module _ (t : Table) (moved : ℕ → Moved) where
  -- the rank of its claim; a place past the count claims nothing
  unfoldable pub rank_at : ℕ → ℕ
  rank_at p = cond (ltb p t.count) (rank (port_at t p).state (moved p)) no_claim

  -- the demand that it claims
  unfoldable pub claim_at : ℕ → Power
  claim_at p = cond (ltb p t.count) (moved p).port.demand zero_power

  module _ (supply : Power) where
    -- is its claim kept
    unfoldable pub kept_at : ℕ → Bool
    kept_at p = keeps most_ports rank_at (λ q. (claim_at q).0) supply.0 p

    -- what the sharing makes of the moved port
    unfoldable pub settled_at : ℕ → Moved
    settled_at p = settled (rank_at p) (kept_at p) (moved p)

    -- the port after the tick; "Places at or past the port count .. never change"
    unfoldable pub port_after : ℕ → Port
    port_after p = cond (ltb p t.count) (settled_at p).port (port_at t p)

    -- what it latched in the tick: by its move, or by being shed
    unfoldable pub latched_at : ℕ → Latches
    latched_at p = cond (ltb p t.count) (join (moved p).latched (settled_at p).latched) no_latches

    -- the table after the tick: "The figure is then stored."
    unfoldable pub table_after : Table
    table_after = record { ports = tabulate most_ports port_after; count = t.count; supply = supply }
