-- The bytes passed are put.
use Rattle.std.proofs.Common.{◌≡◌, take}
use Rattle.text.proofs.Room.{Put}
use Rattle.text.proofs.Page.text.Given as goal

abbrev pub invariant-loop-b : goal.invariant-loop-b
invariant-loop-b l = (l.self.room.ghost_name ≡ l.fn.self.room.ghost_name) × Put l.fn.self.room.now l.fn.self.at (take l.b-index l.bytes) l.self.at l.self.room.now
