-- The places below i are filled.
use Rattle.std.proofs.Common.{◌+◌, ◌*◌, get_or}
use Rattle.lists.specs.Places.{Filled}
use Rattle.parts.specs.Hex.{pair_of}
use Rattle.parts.proofs.fill.Given as goal

abbrev pub invariant-loop-i : goal.invariant-loop-i
invariant-loop-i l = Filled 0 (λ k. pair_of (get_or l.word (2 * k) 0) (get_or l.word (2 * k + 1) 0)) l.initial.room l.i l.room
