-- Document 01: the tick of the access switch. "After every port has moved, claims are ranked", kept or shed, and the masks are answered.
use Rattle.std.specs.Prelude.{ℕ, ◌*◌, Bool, not, List, [], ◌∷◌, ltb, eqb, length, Result}
use Rattle.sizes.specs.Sizes.{most_supply, sample_bytes}
use Rattle.sizes.specs.declared.refusals.Refusal.{Refusal}
use Rattle.lists.specs.Every.{some_below}
use Rattle.lists.specs.Ladder.{ladder}
use Rattle.power.specs.Power.{forced, tenths}
use Rattle.sample.specs.Sample.{sample_at, reserved_flags}
use Rattle.diagram.specs.Step.{step}
use Rattle.port.specs.declared.form.Moved.{Moved}
use Rattle.boards.specs.Masks.{answered}
use Rattle.boards.specs.Sharing.{table_after}
use Rattle.table.specs.declared.form.Table.{Table}
use Rattle.table.specs.declared.form.Closed.{Closed}
use Rattle.block.specs.Digest.{digest}
use Rattle.table.specs.Parts.{Told, port_at, refuse}
use Rattle.table.specs.WellMade.{ill_made}

-- the port at a place below the count, after its own move on its own sample: "14 bytes a port, in port order"
unfoldable pub moved_at : Table → List ℕ → ℕ → Moved
moved_at t block p = step forced (port_at t p) (digest (sample_at block (sample_bytes * p)))

-- refusal 3: "reserved bits or codes .. in sample flags"
unfoldable pub flags_reserved : Table → List ℕ → Bool
flags_reserved t block = some_below t.count (λ p. reserved_flags (sample_at block (sample_bytes * p)).flags)

-- "13 first, in every call that takes a table. Tick: 1, 4, 3."
abbrev pub tick_refusals : Table → List ℕ → ℕ → List (ℕ × Bool)
tick_refusals t block figure =
    (13, ill_made t)
    ∷ (1, not (eqb (length block) (sample_bytes * t.count)))
    ∷ (4, ltb most_supply figure)
    ∷ (3, flags_reserved t block)
    ∷ []

unfoldable pub tick : Table → List ℕ → ℕ → Told (Result Closed Refusal)
tick t block figure = ladder (tick_refusals t block figure) (λ k. refuse k t) (answered (table_after t (moved_at t block) (tenths figure)))
