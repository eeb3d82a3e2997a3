-- What is proved of specs/TlvRows.
-- Assumes nothing.
use Prim.Native.Nat.{ℕ}
use mathlib.Core.Path.{◌≡◌, refl}
use mathlib.Core.List.{List, map}
use Rattle.std.specs.Prelude.{Result}
use Rattle.sizes.specs.declared.refusals.Refusal.{Refusal}
use Rattle.lists.specs.Bytes.{word_at}
use Rattle.lists.specs.Bits.{field}
use Rattle.fields.specs.Fields.{too_high, bad_values}
use Rattle.header.specs.Header.{type_at, length_at, size_at, stands_at, fixed_at, is_power}
use Rattle.fields.specs.declared.Fields.{Fields}
use Rattle.reader.specs.Read.{cut, exactly_one, added_in, form_in, fields_in, read_of}
use Rattle.writer.specs.Write.{bad_codes, bytes_of, written_of, room_after}
use Rattle.statements.specs.TlvRows.{reading_rows, Question, answer, writing_rows}

pub reading_rows_hold : map (λ (r : List ℕ × Result Fields Refusal). read_of r.0) reading_rows ≡ map (λ (r : List ℕ × Result Fields Refusal). r.1) reading_rows
unfolding reading_rows read_of cut exactly_one fields_in form_in added_in bad_values too_high is_power fixed_at stands_at type_at length_at size_at word_at field
reading_rows_hold = refl

pub writing_rows_hold : map (λ (r : Question × (Result ℕ Refusal × List ℕ)). answer r.0) writing_rows ≡ map (λ (r : Question × (Result ℕ Refusal × List ℕ)). r.1) writing_rows
unfolding writing_rows answer written_of room_after bad_codes bad_values too_high bytes_of
writing_rows_hold = refl
