-- Document 01, "The power TLV": rows of our own beside its whole case, which has type and source alike. Each field stands in a place of its
-- own here, so that a layout that is wrong in the definitions of reader and writer alike is refused.
-- Assumes nothing.
use Rattle.std.specs.Prelude.{ℕ, List, [], ◌∷◌, replicate, Result, Ok}
use Rattle.sizes.specs.Refused.{refused}
use Rattle.sizes.specs.declared.refusals.Refusal.{Refusal}
use Rattle.writer.specs.Write.{written_of, room_after}
use Rattle.fields.specs.declared.Fields.{Fields}
use Rattle.fields.specs.declared.Form.TheVariants.{Short, Long}

-- "Type 127 (7 bits), length (9 bits), OUI 00-12-0F, subtype 2, then three octets .. (support, pair, class). Length 7 ends there."
abbrev short : List ℕ → List ℕ
short rest = 0xFE ∷ 0x07 ∷ 0x00 ∷ 0x12 ∷ 0x0F ∷ 0x02 ∷ 0x0A ∷ 0x0B ∷ 0x0C ∷ rest

-- "Length 12 adds one octet .. and the requested and allocated values"
abbrev long : ℕ → ℕ → ℕ → ℕ → ℕ → List ℕ
long octet r s a b = 0xFE ∷ 0x0C ∷ 0x00 ∷ 0x12 ∷ 0x0F ∷ 0x02 ∷ 0x0A ∷ 0x0B ∷ 0x0C ∷ octet ∷ r ∷ s ∷ a ∷ b ∷ []

abbrev short_fields : Fields
short_fields = record { support = 0x0A; pair = 0x0B; class = 0x0C; form = Short }

abbrev fields : ℕ → ℕ → ℕ → ℕ → ℕ → Fields
fields kind source priority requested allocated =
    record {
      support = 0x0A;
      pair = 0x0B;
      class = 0x0C;
      form = Long (record { kind = kind; source = source; priority = priority; requested = requested; allocated = allocated });
    }

unfoldable pub reading_rows : List (List ℕ × Result Fields Refusal)
reading_rows =
    (short [], Ok short_fields)
    -- "7:6 type, 5:4 source, 3:2 .. ignored when read, 1:0 priority"
    ∷ (long 0b10010011 0 38 0 64, Ok (fields 2 1 3 38 64))
    ∷ (long 0b01101101 0 1 0 255, Ok (fields 1 2 1 1 255))
    -- request [4], "0 through 999": 0, 1, 255, 256, 999, 1,000 and 65,535, of the one value and of the other
    ∷ (long 0b10010011 0 0 0 64, Ok (fields 2 1 3 0 64))
    ∷ (long 0b10010011 0 1 0 64, Ok (fields 2 1 3 1 64))
    ∷ (long 0b10010011 0 255 0 64, Ok (fields 2 1 3 255 64))
    ∷ (long 0b10010011 1 0 0 64, Ok (fields 2 1 3 256 64))
    ∷ (long 0b10010011 0x03 0xE7 0 64, Ok (fields 2 1 3 999 64))
    ∷ (long 0b10010011 0x03 0xE8 0 64, refused 10)
    ∷ (long 0b10010011 255 255 0 64, refused 10)
    ∷ (long 0b10010011 0 38 0 0, Ok (fields 2 1 3 38 0))
    ∷ (long 0b10010011 0 38 0 1, Ok (fields 2 1 3 38 1))
    ∷ (long 0b10010011 0 38 0 255, Ok (fields 2 1 3 38 255))
    ∷ (long 0b10010011 0 38 1 0, Ok (fields 2 1 3 38 256))
    ∷ (long 0b10010011 0 38 0x03 0xE7, Ok (fields 2 1 3 38 999))
    ∷ (long 0b10010011 0 38 0x03 0xE8, refused 10)
    ∷ (long 0b10010011 0 38 255 255, refused 10)
    -- "only above 999": so 0xACAC too, which an Autoclass device may send by Clause 145 (docs/DECISIONS.md)
    ∷ (long 0b10010011 0xAC 0xAC 0 64, refused 10)
    -- "Reading a TLV: 6, 9, 10.": a value too high in a TLV with a byte left over
    ∷ (0xFE ∷ 0x0C ∷ 0x00 ∷ 0x12 ∷ 0x0F ∷ 0x02 ∷ 0x0A ∷ 0x0B ∷ 0x0C ∷ 0x52 ∷ 0x03 ∷ 0xE8 ∷ 0x00 ∷ 0x40 ∷ 0x00 ∷ [], refused 9)
    -- "exactly one power TLV of length 7 or 12": a byte left over; length 8; another OUI; another subtype
    ∷ (short (0 ∷ []), refused 9)
    ∷ (0xFE ∷ 0x08 ∷ 0x00 ∷ 0x12 ∷ 0x0F ∷ 0x02 ∷ 0x0A ∷ 0x0B ∷ 0x0C ∷ 0x00 ∷ [], refused 9)
    ∷ (0xFE ∷ 0x07 ∷ 0x00 ∷ 0x12 ∷ 0x0E ∷ 0x02 ∷ 0x0A ∷ 0x0B ∷ 0x0C ∷ [], refused 9)
    ∷ (0xFE ∷ 0x07 ∷ 0x00 ∷ 0x12 ∷ 0x0F ∷ 0x03 ∷ 0x0A ∷ 0x0B ∷ 0x0C ∷ [], refused 9)
    -- "fewer than the header says": the ninth bit of the length counts
    ∷ (0xFF ∷ 0x07 ∷ 0x00 ∷ 0x12 ∷ 0x0F ∷ 0x02 ∷ 0x0A ∷ 0x0B ∷ 0x0C ∷ [], refused 6)
    ∷ []

-- fields handed to the writer with so many bytes of room, each A5
pub data Question : Type 0 where
  writes : Fields → ℕ → Question

abbrev room : ℕ → List ℕ
room n = replicate n 0xA5

unfoldable pub answer : Question → Result ℕ Refusal × List ℕ
answer (writes f n) = (written_of f (room n), room_after f (room n))

unfoldable pub writing_rows : List (Question × (Result ℕ Refusal × List ℕ))
writing_rows =
    -- "Room past a written TLV keeps its bytes."
    (writes short_fields 9, (Ok 9, short []))
    ∷ (writes short_fields 11, (Ok 9, short (0xA5 ∷ 0xA5 ∷ [])))
    -- "3:2 sent as zero"
    ∷ (writes (fields 2 1 3 38 64) 14, (Ok 14, long 0b10010011 0 38 0 64))
    ∷ (writes (fields 1 2 1 1 255) 14, (Ok 14, long 0b01100001 0 1 0 255))
    -- request [4], "0 through 999"
    ∷ (writes (fields 2 1 3 0 64) 14, (Ok 14, long 0b10010011 0 0 0 64))
    ∷ (writes (fields 2 1 3 1 64) 14, (Ok 14, long 0b10010011 0 1 0 64))
    ∷ (writes (fields 2 1 3 255 64) 14, (Ok 14, long 0b10010011 0 255 0 64))
    ∷ (writes (fields 2 1 3 256 64) 14, (Ok 14, long 0b10010011 1 0 0 64))
    ∷ (writes (fields 2 1 3 999 64) 14, (Ok 14, long 0b10010011 0x03 0xE7 0 64))
    ∷ (writes (fields 2 1 3 1000 64) 14, (refused 10, room 14))
    ∷ (writes (fields 2 1 3 65535 64) 14, (refused 10, room 14))
    ∷ (writes (fields 2 1 3 38 0) 14, (Ok 14, long 0b10010011 0 38 0 0))
    ∷ (writes (fields 2 1 3 38 1) 14, (Ok 14, long 0b10010011 0 38 0 1))
    ∷ (writes (fields 2 1 3 38 255) 14, (Ok 14, long 0b10010011 0 38 0 255))
    ∷ (writes (fields 2 1 3 38 256) 14, (Ok 14, long 0b10010011 0 38 1 0))
    ∷ (writes (fields 2 1 3 38 999) 14, (Ok 14, long 0b10010011 0 38 0x03 0xE7))
    ∷ (writes (fields 2 1 3 38 1000) 14, (refused 10, room 14))
    ∷ (writes (fields 2 1 3 38 65535) 14, (refused 10, room 14))
    ∷ (writes (fields 2 1 3 66535 64) 14, (refused 10, room 14))
    -- "Writing: 3, 10, 1.", each number before the next
    ∷ (writes (fields 4 0 0 1000 0) 0, (refused 3, []))
    ∷ (writes (fields 0 4 0 1 1) 14, (refused 3, room 14))
    ∷ (writes (fields 0 0 4 1 1) 14, (refused 3, room 14))
    ∷ (writes (fields 3 3 3 1000 1) 13, (refused 10, room 13))
    ∷ (writes (fields 3 3 3 1 999) 13, (refused 1, room 13))
    ∷ (writes short_fields 8, (refused 1, room 8))
    ∷ []
