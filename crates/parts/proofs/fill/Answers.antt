-- `fill` leaves `bytes_in` in front of what stood after.
use Rattle.std.proofs.Common.{◌≡◌, ◌+◌, ◌*◌, ◌/◌, get_or, length, arith}
use Rattle.lists.proofs.Every.{every_at}
use Rattle.parts.specs.Hex.{is_hex, bytes_in}
use Rattle.parts.proofs.Hex.{filled_front}
use Rattle.parts.proofs.fill.Goals as goal

pub pair-requires-clause-high_value : goal.pair-requires-clause-high_value
pair-requires-clause-high_value c =
    let w = c.args.word.now in
    every_at (length w) (λ p. is_hex (get_or w p 0)) c.requires.p_value (2 * c.loop-i.i) (omega arith)

pub pair-requires-clause-low_value : goal.pair-requires-clause-low_value
pair-requires-clause-low_value c =
    let w = c.args.word.now in
    every_at (length w) (λ p. is_hex (get_or w p 0)) c.requires.p_value (2 * c.loop-i.i + 1) (omega arith)

pub returns : goal.returns
unfolding bytes_in
returns c =
    let l = c.loop-i in
    let e : l.i ≡ length c.args.word.now / 2 = omega arith in
    filled_front _ c.args.room.now (length c.args.word.now / 2) l.room c.requires.word_in_bounds (rw e at l.invariant)
