-- Document 01, "The power TLV": what the reader answers.
use Rattle.std.specs.Prelude.{ℕ, Bool, cond, ◌&&◌, ◌||◌, not, List, [], ◌∷◌, eqb, ltb, length, get_or, Result, Ok}
use Rattle.lists.specs.Bytes.{word_at}
use Rattle.lists.specs.Bits.{field}
use Rattle.lists.specs.Ladder.{ladder}
use Rattle.fields.specs.Fields.{bad_values}
use Rattle.header.specs.Header.{length_at, size_at, is_power}
use Rattle.fields.specs.declared.Fields.{Fields}
use Rattle.fields.specs.declared.Form.{Form}
use Rattle.fields.specs.declared.Form.TheVariants.{Short, Long}
use Rattle.fields.specs.declared.Added.{Added}
use Rattle.sizes.specs.declared.refusals.Refusal.{Refusal}
use Rattle.sizes.specs.Refused.{refused}

-- refusal 6, "For the reader, fewer than two bytes, or fewer than the header says"
unfoldable pub cut : List ℕ → Bool
cut bytes = ltb (length bytes) 2 || ltb (length bytes) (size_at bytes 0)

-- "exactly one power TLV of length 7 or 12"
unfoldable pub exactly_one : List ℕ → Bool
exactly_one bytes = eqb (length bytes) (size_at bytes 0) && (is_power bytes 0 && (eqb (length_at bytes 0) 7 || eqb (length_at bytes 0) 12))

-- "Length 12 adds one octet (7:6 type, 5:4 source, 3:2 .. ignored when read, 1:0 priority .. and the requested and allocated values, 16 bits each"
unfoldable pub added_in : List ℕ → Added
added_in bytes =
    record {
      kind = field 6 2 (get_or bytes 9 0);
      source = field 4 2 (get_or bytes 9 0);
      priority = field 0 2 (get_or bytes 9 0);
      requested = word_at bytes 10;
      allocated = word_at bytes 12;
    }

-- "Length 7 ends there."
unfoldable pub form_in : List ℕ → Form
form_in bytes = cond (eqb (length_at bytes 0) 7) Short (Long (added_in bytes))

-- "then three octets kept as they are (support, pair, class)"
unfoldable pub fields_in : List ℕ → Fields
fields_in bytes = record { support = get_or bytes 6 0; pair = get_or bytes 7 0; class = get_or bytes 8 0; form = form_in bytes }

-- "Reading a TLV: 6, 9, 10."; refusal 9, "the bytes aren't exactly one power TLV of length 7 or 12"
abbrev pub read_refusals : List ℕ → List (ℕ × Bool)
read_refusals bytes = (6, cut bytes) ∷ (9, not (exactly_one bytes)) ∷ (10, bad_values (form_in bytes)) ∷ []

unfoldable pub read_of : List ℕ → Result Fields Refusal
read_of bytes = ladder (read_refusals bytes) refused (Ok (fields_in bytes))
