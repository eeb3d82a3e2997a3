-- Document 01, "The power TLV": what the writer answers, and what it leaves in the room.
use Rattle.std.specs.Prelude.{ℕ, ◌+◌, ◌*◌, ◌/◌, ◌%◌, Bool, false, ◌||◌, List, [], ◌∷◌, ◌++◌, ltb, length, drop, Result, Ok, Err}
use Rattle.lists.specs.Ladder.{ladder}
use Rattle.fields.specs.Fields.{bad_values}
use Rattle.header.specs.Header.{fixed}
use Rattle.fields.specs.declared.Fields.{Fields}
use Rattle.fields.specs.declared.Form.{Form}
use Rattle.fields.specs.declared.Form.TheVariants.{Short, Long}
use Rattle.fields.specs.declared.Added.{Added}
use Rattle.sizes.specs.declared.refusals.Refusal.{Refusal}
use Rattle.sizes.specs.Refused.{refused}

-- refusal 3, "a type, source or priority code over 3 handed to the writer"
unfoldable pub bad_codes : Form → Bool
bad_codes Short = false
bad_codes (Long added) = ltb 3 added.kind || (ltb 3 added.source || ltb 3 added.priority)

-- "16 bits each", the high byte first
abbrev pub word : ℕ → List ℕ
word value = value / 256 ∷ value % 256 ∷ []

-- "one octet (7:6 type, 5:4 source, 3:2 sent as zero .. 1:0 priority .. and the requested and allocated values"
abbrev pub added_bytes : Added → List ℕ
added_bytes a = (64 * a.kind + 16 * a.source + a.priority) ∷ (word a.requested ++ word a.allocated)

-- what a form adds to the three octets: "Length 7 ends there."
abbrev pub form_bytes : Form → List ℕ
form_bytes Short = []
form_bytes (Long added) = added_bytes added

-- "Type 127 (7 bits), length (9 bits), OUI 00-12-0F, subtype 2, then three octets kept as they are (support, pair, class)."
abbrev pub head_bytes : Fields → ℕ → List ℕ
head_bytes f length = word (512 * 127 + length) ++ fixed ++ (f.support ∷ f.pair ∷ f.class ∷ [])

-- "Length 7", "Length 12": the four fixed bytes, the three octets, and what the form adds
abbrev pub length_of : Form → ℕ
length_of form = 7 + length (form_bytes form)

-- the whole TLV
unfoldable pub bytes_of : Fields → List ℕ
bytes_of f = head_bytes f (length_of f.form) ++ form_bytes f.form

-- "Writing: 3, 10, 1."; refusal 1, "the room for a written TLV is too short"
abbrev pub write_refusals : Fields → List ℕ → List (ℕ × Bool)
write_refusals f room = (3, bad_codes f.form) ∷ (10, bad_values f.form) ∷ (1, ltb (length room) (length (bytes_of f))) ∷ []

unfoldable pub written_of : Fields → List ℕ → Result ℕ Refusal
written_of f room = ladder (write_refusals f room) refused (Ok (length (bytes_of f)))

-- what each answer leaves: "Room past a written TLV keeps its bytes."; of a refusal, "no lent byte is written"
abbrev pub left : Result ℕ Refusal → Fields → List ℕ → List ℕ
left (Ok n) f room = bytes_of f ++ drop n room
left (Err r) f room = room

-- the whole room once the writer has answered
unfoldable pub room_after : Fields → List ℕ → List ℕ
room_after f room = left (written_of f room) f room
