-- The walk that is left, with the power TLVs that were counted, has the whole walk's number. Each TLV has two bytes, so no more are counted
-- than were passed. The measure is what is left of the bytes.
use Rattle.std.proofs.Common.{◌≡◌, ◌≤◌, ◌-◌, length}
use Rattle.search.specs.Search.{search_refusals}
use Rattle.walk.specs.Walk.{walk_from}
use Rattle.interface.specs.Statement1C.{first_number}
use Rattle.order_frames.proofs.Walking.{outlook}
use Rattle.order_frames.proofs.search_number.Given as goal

abbrev pub invariant-loop-at : goal.invariant-loop-at
invariant-loop-at l = (l.at ≤ length l.pdu) × (l.powers ≤ l.at) × (first_number (search_refusals l.pdu) ≡ outlook l.pdu l.powers (walk_from l.pdu l.at))

abbrev pub decreases-loop-at : goal.decreases-loop-at
decreases-loop-at l = length l.pdu - l.at
