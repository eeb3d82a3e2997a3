-- What is seen, with the walk that is left, has the whole walk's answer. The measure is what is left of the bytes.
use Rattle.std.proofs.Common.{◌≡◌, ◌-◌, length}
use Rattle.walk.specs.Walk.{walk_from}
use Rattle.search.specs.declared.Seen.TheVariants.{Nothing}
use Rattle.search.proofs.FromHere.{outlook}
use Rattle.search.proofs.search.Given as goal

abbrev pub invariant-loop-size : goal.invariant-loop-size
invariant-loop-size l = outlook l.pdu Nothing (walk_from l.pdu 0) ≡ outlook l.pdu l.seen (walk_from l.pdu l.at)

abbrev pub decreases-loop-size : goal.decreases-loop-size
decreases-loop-size l = length l.pdu - l.at
