-- What the core writes is right: by the two laws of the crate `tlv`.
-- Assumes nothing.
use Prim.Native.Nat.{ℕ, suc, ◌≤◌, ◌<◌}
use mathlib.Core.Path.{◌≡◌, refl, sym, ◌∙◌, ap}
use mathlib.Core.Bool.{Bool, true}
use mathlib.Core.List.{List, [], ◌∷◌, ◌++◌}
use mathlib.Core.Logic.{⊎_elim}
use native.Mathlib.Omega.{arith}
use lib.Dec.{eqb, ltb}
use lib.ListN.{length, get_or, take, drop, length-append, length-drop, get_or-eq_default}
use Rattle.std.specs.Prelude.{Result, Ok, Err}
use lib.Seq.{take_at, drop_at}
use borrow.Author.Tests.{lt-ltb, le-ltb, eq-eqb, ltb-true, ltb-false, eqb-true}
use Rattle.lists.specs.Bits.{field}
use Rattle.lists.proofs.Ladder.{ladder_value}
use Rattle.lists.specs.Entries.{all}
use Rattle.lists.proofs.Tests.{or_either}
use Rattle.header.specs.Header.{length_at}
use Rattle.fields.specs.declared.Fields.{Fields}
use Rattle.fields.specs.declared.Form.{Form}
use Rattle.fields.specs.declared.Form.TheVariants.{Short, Long}
use Rattle.reader.specs.Read.{read_of}
use Rattle.reader.proofs.ExactlyOne.{whole, lengths}
use Rattle.writer.specs.Write.{bytes_of, write_refusals, written_of, left, room_after}
use Rattle.sizes.specs.declared.refusals.Refusal.{Refusal}
use Rattle.sizes.specs.Refused.{refused}
use Rattle.tlv.specs.Laws.{is_byte}
use Rattle.tlv.proofs.ReadRewrites.{taken, read_rewrites}
use Rattle.tlv.proofs.WrittenReads.{written_reads}
use Rattle.judge.specs.Alike.{alike}
use Rattle.judge.proofs.Alike.{alike_self}
use Rattle.second_frames.specs.Asks.{zero_sent}
use Rattle.second_frames.specs.Right.{tlv_size, is_taken, reads_as, written_right, rewritten_right}
use Rattle.second_frames.proofs.SameLaws.{fields_self}

-- ---- what was written

sized : (s p k : ℕ) (form : Form) → length (bytes_of (record { support = s; pair = p; class = k; form = form })) ≡ tlv_size form
unfolding bytes_of
sized s p k Short = refl
sized s p k (Long a) = refl

module _ (f : Fields) (room : List ℕ) (n : ℕ) (e : written_of f room ≡ Ok n) where
  size : length (bytes_of f) ≡ n
  unfolding written_of
  size =
      let h = ladder_value refused (Ok (length (bytes_of f))) (Ok n) (λ k q. cc) (write_refusals f room) e in
      cc

  fits : n ≤ length room
  unfolding written_of
  fits =
      let h = ladder_value refused (Ok (length (bytes_of f))) (Ok n) (λ k q. cc) (write_refusals f room) e in
      omega (arith, size, ltb-false (length room) (length (bytes_of f)) h.0.1.1.0)

  after : room_after f room ≡ bytes_of f ++ drop n room
  unfolding room_after
  after = ap (λ (w : Result ℕ Refusal). left w f room) e

  past : drop n (room_after f room) ≡ drop n room
  past = ap (drop n) after ∙ drop_at (bytes_of f) (drop n room) n size

  long : length (room_after f room) ≡ length room
  long = ap length after ∙ simp (length-append, length-drop) (omega (arith, size, fits))

  past_kept : alike (drop n room) (drop n (room_after f room)) ≡ true
  past_kept = ap (alike (drop n room)) past ∙ alike_self (drop n room)

  right : written_right f n (room_after f room) room ≡ true
  unfolding written_right reads_as
  right =
      let reads : is_taken (read_of (take n (room_after f room))) f ≡ true = ap (λ (t : Result Fields Refusal). is_taken t f) (written_reads f room n e) ∙ fields_self f in
      simp (eq-eqb n (tlv_size f.form) (sym size ∙ sized f.support f.pair f.class f.form), long, le-ltb (length room) n fits, reads, past_kept)

-- what the program has in hand
pub write_right : (f : Fields) (room before after : List ℕ) (n : ℕ) → before ≡ room → after ≡ room_after f room → written_of f room ≡ Ok n → written_right f n after before ≡ true
write_right f room before after n b a e = rw (b, a) (right f room n e)

-- ---- what was read

-- what each entry of a list passes, the list does
all_of : (f : ℕ → Bool) (xs : List ℕ) → ((k : ℕ) → f (get_or xs k 0) ≡ true) → all f xs ≡ true
unfolding all
all_of f [] h = refl
all_of f (x ∷ xs) h = simp (h 0, all_of f xs (λ k. h (suc k)))

module _ (bytes : List ℕ) (byte : (k : ℕ) → get_or bytes k 0 < 256) (zero : zero_sent bytes ≡ true) (f : Fields) (reads : read_of bytes ≡ Ok f) (room : List ℕ) (much : 14 ≤ length room) where
  short_enough : length bytes ≤ length room
  short_enough =
      let one = (taken bytes f reads).0 in
      ⊎_elim (λ (e : length_at bytes 0 ≡ 7). omega (arith, whole bytes one)) (λ (e : length_at bytes 0 ≡ 12). omega (arith, whole bytes one)) (lengths bytes one)

  bits : field 2 2 (get_or bytes 9 0) ≡ 0
  unfolding zero_sent field
  bits =
      ⊎_elim
      (λ (e : ltb (length bytes) 10 ≡ true). ap (field 2 2) (get_or-eq_default bytes 0 (omega (arith, ltb-true (length bytes) 10 e))))
      (λ (e : eqb (field 2 2 (get_or bytes 9 0)) 0 ≡ true). eqb-true _ 0 e)
      (or_either (ltb (length bytes) 10) _ zero)

  again : (Ok (length bytes) ≡ written_of f room) × (bytes ++ drop (length bytes) room ≡ room_after f room)
  again = read_rewrites bytes (all_of is_byte bytes (λ k. lt-ltb _ 256 (byte k))) f reads bits room short_enough

  pub read_written : (r : Refusal) → written_of f room ≡ Err r → ⊥
  read_written r e = let a = again.0 in cc

  pub read_right : (after : List ℕ) (n : ℕ) → after ≡ room_after f room → written_of f room ≡ Ok n → rewritten_right bytes n after room ≡ true
  unfolding rewritten_right
  read_right after n a e =
      let long_is : length bytes ≡ n = let b = again.0 in cc in
      let same : take n after ≡ bytes = ap (take n) (a ∙ sym again.1) ∙ take_at bytes (drop (length bytes) room) n long_is in
      let tail : alike (drop n room) (drop n after) ≡ true = ap (λ (l : List ℕ). alike (drop n room) (drop n l)) a ∙ past_kept f room n e in
      simp (ap length a ∙ long f room n e, le-ltb (length room) n (fits f room n e), ap (alike bytes) same ∙ alike_self bytes, tail)
