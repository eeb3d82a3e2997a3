-- What the program looks at once a frame is written.
-- Assumes nothing.
use Rattle.std.specs.Prelude.{ℕ, Bool, false, cond, not, ◌&&◌, List, eqb, ltb, length, take, drop, Result, Ok, Err}
use Rattle.fields.specs.declared.Fields.{Fields}
use Rattle.fields.specs.declared.Form.{Form}
use Rattle.fields.specs.declared.Form.TheVariants.{Short, Long}
use Rattle.reader.specs.Read.{read_of}
use Rattle.sizes.specs.declared.refusals.Refusal.{Refusal}
use Rattle.judge.specs.Alike.{alike}
use Rattle.second_frames.specs.Same.{same_fields}

-- "Length 7", "Length 12", and the header before it
abbrev pub tlv_size : Form → ℕ
tlv_size Short = 9
tlv_size (Long a) = 14

abbrev pub is_taken : Result Fields Refusal → Fields → Bool
is_taken (Ok g) f = same_fields g f
is_taken (Err r) f = false

-- "reads back as written"
unfoldable pub reads_as : List ℕ → Fields → Bool
reads_as tlv f = is_taken (read_of tlv) f

-- so many bytes of the room are the TLV, and "Room past a written TLV keeps its bytes."
unfoldable pub written_right : Fields → ℕ → List ℕ → List ℕ → Bool
written_right f n room before =
    cond (not (eqb n (tlv_size f.form))) false
    (cond (ltb (length room) n) false
    (cond (ltb (length before) n) false
    (reads_as (take n room) f && alike (drop n before) (drop n room))))

-- "are rewritten the same"
unfoldable pub rewritten_right : List ℕ → ℕ → List ℕ → List ℕ → Bool
rewritten_right bytes n room before =
    cond (ltb (length room) n) false
    (cond (ltb (length before) n) false
    (alike bytes (take n room) && alike (drop n before) (drop n room)))
