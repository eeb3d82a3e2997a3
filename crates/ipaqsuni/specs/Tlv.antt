-- The calls on a PDU and on a power TLV, whose fields are nine numbers: form (7 or 12), support, pair, class, type, source, priority,
-- requested, allocated (the last five 0 for form 7).
use Rattle.std.specs.Prelude.{ℕ, ◌<◌, ◌^◌, cond, List, [], ◌∷◌, get_or, Result, Ok, Err}
use Rattle.sizes.specs.Refused.{refused}
use Rattle.sizes.specs.declared.refusals.Refusal.{Refusal}
use Rattle.search.specs.declared.Found.{Found}
use Rattle.writer.specs.Write.{written_of, room_after}
use Rattle.fields.specs.declared.Fields.{Fields}
use Rattle.fields.specs.declared.Form.{Form}
use Rattle.fields.specs.declared.Form.TheVariants.{Short, Long}
use Rattle.numbers.specs.Numbers.{no_fields, form_given}

-- a room with a TLV written into it, and how long that is
pub record Filled : Type 0 where
  pub room : List ℕ
  pub size : ℕ

-- what the core answers
abbrev pub of_write : List ℕ → Result ℕ Refusal → Result Filled Refusal
of_write after (Ok n) = Ok (record { room = after; size = n })
of_write after (Err refusal) = Err refusal

-- a TLV's fields as nine numbers
abbrev pub form_number : Form → ℕ
form_number Short = 7
form_number (Long added) = 12

-- the last five are 0 for form 7
abbrev pub added_numbers : Form → List ℕ
added_numbers Short = 0 ∷ 0 ∷ 0 ∷ 0 ∷ 0 ∷ []
added_numbers (Long a) = a.kind ∷ a.source ∷ a.priority ∷ a.requested ∷ a.allocated ∷ []

unfoldable pub numbers_of : Fields → List ℕ
numbers_of f = form_number f.form ∷ f.support ∷ f.pair ∷ f.class ∷ added_numbers f.form

-- the numbers that a form adds fit 32 bits
abbrev pub Narrow : Form → Type 0
Narrow Short = Unit
Narrow (Long a) = (a.kind < 2 ^ 32) × (a.source < 2 ^ 32) × (a.priority < 2 ^ 32) × (a.requested < 2 ^ 32) × (a.allocated < 2 ^ 32)

-- nine numbers as a TLV's fields
unfoldable pub fields_given : List ℕ → Fields
fields_given n = record { support = get_or n 1 0; pair = get_or n 2 0; class = get_or n 3 0; form = form_given n }

-- refusal 3 of the nine numbers comes first, so that "Writing: 3, 10, 1." holds of the whole
unfoldable pub write_call : List ℕ → List ℕ → Result Filled Refusal
write_call n room = cond (no_fields n) (refused 3) (of_write (room_after (fields_given n) room) (written_of (fields_given n) room))

-- what an accepted call leaves in each lent place
abbrev pub offset_found : Found → ℕ
offset_found p = p.start

abbrev pub size_found : Found → ℕ
size_found p = p.size

abbrev pub room_written : Filled → List ℕ
room_written w = w.room

abbrev pub size_written : Filled → ℕ
size_written w = w.size
