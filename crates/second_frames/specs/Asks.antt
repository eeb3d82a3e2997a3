-- What the second demand asks of a frame's fields, room or bytes.
-- Assumes nothing.
use Rattle.std.specs.Prelude.{ℕ, Bool, ◌&&◌, ◌||◌, List, eqb, ltb, length, get_or}
use Rattle.lists.specs.Bits.{field}
use Rattle.fields.specs.declared.Fields.{Fields}
use Rattle.reader.specs.Read.{read_refusals}
use Rattle.writer.specs.Write.{write_refusals}
use Rattle.interface.specs.Statement1C.{first_number}
use Rattle.judge.specs.Alike.{alike}

-- "Whatever is written": none of "Writing: 3, 10, 1."; and `before` is what is lent
unfoldable pub asks_write : Fields → List ℕ → List ℕ → Bool
asks_write f room before = alike before room && eqb (first_number (write_refusals f room)) 0

-- "with 3:2 zero"; "Length 7 ends there.", so that it has no such octet
unfoldable pub zero_sent : List ℕ → Bool
zero_sent bytes = ltb (length bytes) 10 || eqb (field 2 2 (get_or bytes 9 0)) 0

-- "bytes that read, with 3:2 zero": none of "Reading a TLV: 6, 9, 10."
unfoldable pub asks_read : List ℕ → Bool
asks_read bytes = eqb (first_number (read_refusals bytes)) 0 && zero_sent bytes
