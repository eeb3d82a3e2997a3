-- A byte below bit 48 does not leave 64 bits.
use Rattle.std.proofs.Common.{◌≡◌, ℕ, ◌+◌, ◌*◌, ◌%◌, ◌^◌, ◌≤◌, ◌<◌, arith}
use native.Mathlib.Nat.{lt_of_lt_of_le}
use lib.Pow.{shl_exact, shl_lt, pow_mono}
use Rattle.sizes.specs.Sizes.{most_ports}
use Rattle.tally.proofs.placed.Goals as goal

fits : (byte at : ℕ) → byte < 256 → at ≤ 40 → (byte * 2 ^ at) % 2 ^ 64 ≡ byte * 2 ^ at
fits byte at b h = shl_exact 8 at 64 b (omega arith)

below : (byte at : ℕ) → byte < 256 → at ≤ 40 → byte * 2 ^ at < 2 ^ most_ports
below byte at b h = lt_of_lt_of_le (shl_lt 8 at b) (pow_mono {i = 8 + at} {j = most_ports} (omega arith))

room : (at : ℕ) → at ≤ 40 → 2 ^ at ≤ 2 ^ 40
room at h = pow_mono {i = at} {j = 40} h

pub overflow_add-result : goal.overflow_add-result
overflow_add-result c =
    let a = c.args in
    let r = c.requires in
    omega (arith, fits a.byte a.at r.1 r.2, below a.byte a.at r.1 r.2, room a.at r.2, r.0)

pub returns : goal.returns
returns c = omega (arith, fits c.args.byte c.args.at c.requires.1 c.requires.2)
