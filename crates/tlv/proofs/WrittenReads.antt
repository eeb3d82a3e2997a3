-- "Whatever is written reads back as written", and every value from 0 through 999 is written.
-- Assumes nothing.
use mathlib.Core.Path.{◌≡◌, ◌∙◌, refl, sym, ap}
use mathlib.Core.Bool.{false}
use Prim.Native.Nat.{ℕ, ◌+◌, ◌*◌, ◌/◌, ◌%◌}
use native.Mathlib.Nat.{div-one}
use native.Mathlib.Omega.{arith}
use lib.ListN.{length, take, drop}
use Rattle.std.specs.Prelude.{Result, Ok}
use lib.Seq.{take_at}
use borrow.Author.Tests.{le-ltb}
use Rattle.lists.specs.Bytes.{word_at}
use Rattle.lists.specs.Bits.{field}
use Rattle.lists.proofs.Ladder.{ladder_value}
use Rattle.fields.specs.Fields.{bad_values}
use Rattle.header.specs.Header.{type_at, length_at, size_at, stands_at, fixed_at, is_power}
use Rattle.fields.proofs.Values.{not_high}
use Rattle.tlv.specs.Laws.{WrittenReads, EveryValue}
use Rattle.reader.specs.Read.{cut, exactly_one, added_in, form_in, fields_in, read_of}
use Rattle.writer.specs.Write.{bad_codes, bytes_of, write_refusals, written_of, room_after, left}
use Rattle.fields.specs.declared.Fields.{Fields}
use Rattle.fields.specs.declared.Form.{Form}
use Rattle.fields.specs.declared.Form.TheVariants.{Short, Long}
use Rattle.fields.specs.declared.Added.{Added}
use Rattle.sizes.specs.declared.refusals.Refusal.{Refusal}
use Rattle.sizes.specs.Refused.{refused}
use Rattle.writer.proofs.InRange.{codes}
use Rattle.writer.proofs.Stored.{accept, size_long}

-- a number of two bytes
value : (v : ℕ) → 256 * (v / 256) + v % 256 ≡ v
value v = omega arith

-- the octet and the two values of the long form read back
added_back : (a : Added) (f : Fields) → f.form ≡ Long a → bad_codes (Long a) ≡ false → added_in (bytes_of f) ≡ a
unfolding added_in bytes_of field word_at
added_back a f e h =
    let b = codes a h in
    let o = 64 * a.kind + 16 * a.source + a.priority in
    let kind : o / 64 % 4 ≡ a.kind = omega arith in
    let source : o / 16 % 4 ≡ a.source = omega arith in
    let priority : o % 4 ≡ a.priority = omega arith in
    simp (e, div-one, kind, source, priority, value)

-- every form whose fields are not refused reads back
reads : (s p k : ℕ) (form : Form) → bad_codes form ≡ false → bad_values form ≡ false
    → read_of (bytes_of (record { support = s; pair = p; class = k; form = form })) ≡ Ok (record { support = s; pair = p; class = k; form = form })
unfolding read_of cut exactly_one fields_in form_in bytes_of bad_values is_power fixed_at stands_at type_at length_at size_at word_at field
reads s p k Short h v = refl
reads s p k (Long a) h v = simp (added_back a (record { support = s; pair = p; class = k; form = Long a }) refl h, v)

-- the bytes that a write leaves from the room's start on read as the fields that it was handed
pub written_reads : WrittenReads
unfolding written_of room_after
written_reads f room n e =
    let h = ladder_value refused (Ok (length (bytes_of f))) (Ok n) (λ k q. cc) (write_refusals f room) e in
    let size : length (bytes_of f) ≡ n = cc in
    ap (λ (w : Result ℕ Refusal). read_of (take n (left w f room))) e
    ∙ ap read_of (take_at (bytes_of f) (drop n room) n size)
    ∙ reads f.support f.pair f.class f.form h.0.0 h.0.1.0

-- what has codes up to 3 and values in range is not refused
pub every_value : EveryValue
unfolding bad_codes bad_values
every_value f a e kind source priority requested allocated room much =
    let good : bad_codes f.form ≡ false = simp (e, le-ltb 3 _ kind, le-ltb 3 _ source, le-ltb 3 _ priority) in
    let values : bad_values f.form ≡ false = simp (e, not_high _ requested, not_high _ allocated) in
    let written = sym (accept f room good values 14 (size_long f a e) much _ refl).0 in
    (written, written_reads f room 14 written)
