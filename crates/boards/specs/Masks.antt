-- Document 01, "Sharing the supply": what a tick answers of the table that it leaves.
use Rattle.std.specs.Prelude.{ℕ, ◌+◌, Bool, true, false, ◌&&◌, Result, Ok}
use Rattle.std.specs.Int.Count.{ones}
use Rattle.sizes.specs.Sizes.{most_ports}
use Rattle.sizes.specs.declared.refusals.Refusal.{Refusal}
use Rattle.lists.specs.Count.{mask}
use Rattle.control.specs.Control.{pair_of}
use Rattle.control.specs.declared.Pair.{Pair}
use Rattle.control.specs.declared.Pair.TheVariants.{Neither, A, B, Both}
use Rattle.table.specs.Drawn.{closed_at}
use Rattle.table.specs.Parts.{Told, port_at}
use Rattle.table.specs.declared.form.Closed.{Closed}
use Rattle.table.specs.declared.form.Table.{Table}

abbrev pub names_a : Pair → Bool
names_a Neither = false
names_a A = true
names_a B = false
names_a Both = false

abbrev pub names_b : Pair → Bool
names_b Neither = false
names_b A = false
names_b B = true
names_b Both = false

-- "a 64-bit mask for each alternative, bit p set exactly if port p is closed and its control word names that alternative"
unfoldable pub mask_a : Table → ℕ
mask_a t = mask most_ports (λ p. closed_at t p && names_a (pair_of (port_at t p).control))

unfoldable pub mask_b : Table → ℕ
mask_b t = mask most_ports (λ p. closed_at t p && names_b (pair_of (port_at t p).control))

-- "and a number of closed ports equal to the ones in the two masks"
abbrev pub closed_ports : Table → Closed
closed_ports t = record { a = mask_a t; b = mask_b t; number = ones (mask_a t) + ones (mask_b t) }

unfoldable pub answered : Table → Told (Result Closed Refusal)
answered t = record { table = t; answer = Ok (closed_ports t) }
