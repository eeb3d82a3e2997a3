-- What is proved of specs/Cases.
-- Assumes nothing.
use mathlib.Core.Path.{◌≡◌, refl}
use mathlib.Core.List.{[], ◌∷◌, ◌++◌, map}
use lib.ListN.{take}
use Rattle.std.specs.Prelude.{ℕ, Result, Ok}
use Rattle.lists.specs.Bytes.{word_at}
use Rattle.lists.specs.Bits.{field}
use Rattle.fields.specs.Fields.{too_high, bad_values}
use Rattle.header.specs.Header.{type_at, length_at, size_at, stands_at, fixed_at, is_power}
use Rattle.reader.specs.Read.{cut, exactly_one, added_in, form_in, fields_in, read_of}
use Rattle.search.specs.Search.{is_cut, powers, search_of}
use Rattle.walk.specs.Walk.{step_of, walk, walk_from}
use Rattle.writer.specs.Write.{bytes_of}
use Rattle.search.specs.declared.Found.{Found}
use Rattle.sizes.specs.declared.refusals.Refusal.{Refusal}
use Rattle.sizes.specs.Refused.{refused}
use Rattle.tlv.specs.Cases.{whole_bytes, whole_fields}

pub whole_reads : read_of whole_bytes ≡ Ok whole_fields
unfolding read_of cut exactly_one fields_in form_in added_in bad_values too_high is_power fixed_at stands_at type_at length_at size_at word_at field
whole_reads = refl

pub whole_written : bytes_of whole_fields ≡ whole_bytes
unfolding bytes_of
whole_written = refl

-- a part of so many bytes, from this place on
abbrev pub found : ℕ → ℕ → Result Found Refusal
found start size = Ok (record { start = start; size = size })

pub whole_found : search_of whole_bytes ≡ found 0 14
unfolding search_of powers is_cut walk_from walk step_of is_power fixed_at stands_at type_at length_at size_at word_at field
whole_found = refl

-- "Empty PDU: 7."
pub empty : search_of [] ≡ refused 7
unfolding search_of powers is_cut walk_from walk
empty = refl

-- PDUs, in this order: a lone last byte 00; a type 0 header with a length; nothing counts after the end; two power TLVs; two and then a
-- cut one; a header that says more than there is; a TLV of type 127 that ends before its subtype
pub searches :
    map search_of (
    (0x00 ∷ [])
    ∷ (whole_bytes ++ (0x00 ∷ 0x05 ∷ []))
    ∷ (0x00 ∷ 0x00 ∷ whole_bytes)
    ∷ (whole_bytes ++ whole_bytes)
    ∷ (whole_bytes ++ whole_bytes ++ (0x02 ∷ []))
    ∷ (0x02 ∷ 0x01 ∷ [])
    ∷ (0xFE ∷ 0x03 ∷ 0x00 ∷ 0x12 ∷ 0x0F ∷ [])
    ∷ []
    )
    ≡ refused 6 ∷ found 0 14 ∷ refused 7 ∷ refused 8 ∷ refused 6 ∷ refused 6 ∷ refused 7 ∷ []
unfolding search_of powers is_cut walk_from walk step_of is_power fixed_at stands_at type_at length_at size_at word_at field
searches = refl

-- bytes handed to the reader, in this order: none; fewer than the header says, of another type too; a byte left over; another type
pub readings : map read_of ([] ∷ take 13 whole_bytes ∷ (0x02 ∷ 0x01 ∷ []) ∷ (whole_bytes ++ (0x00 ∷ [])) ∷ (0x00 ∷ 0x00 ∷ []) ∷ []) ≡ refused 6 ∷ refused 6 ∷ refused 6 ∷ refused 9 ∷ refused 9 ∷ []
unfolding read_of cut exactly_one fields_in form_in added_in bad_values too_high is_power fixed_at stands_at type_at length_at size_at word_at field
readings = refl
