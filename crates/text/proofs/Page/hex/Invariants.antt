-- The digits of the bytes passed are put.
use Rattle.std.proofs.Common.{◌≡◌, take}
use Rattle.parts.specs.Hex.{hex_of}
use Rattle.text.proofs.Room.{Put}
use Rattle.text.proofs.Page.hex.Given as goal

abbrev pub invariant-loop-byte : goal.invariant-loop-byte
invariant-loop-byte l = (l.page.room.ghost_name ≡ l.initial.page.room.ghost_name) × Put l.fn.self.room.now l.fn.self.at (hex_of (take l.byte-index l.bytes)) l.page.at l.page.room.now
