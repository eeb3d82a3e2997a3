-- "bytes that read, with 3:2 zero, are rewritten the same".
-- Assumes nothing.
use mathlib.Core.Path.{◌≡◌, ◌∙◌, refl, sym, ap, subst}
use mathlib.Core.Bool.{Bool, true, false, cond}
use mathlib.Core.List.{List, [], ◌∷◌, ◌++◌}
use mathlib.Core.Logic.{⊎_elim}
use Prim.Native.Nat.{ℕ, zero, suc, ◌+◌, ◌*◌, ◌/◌, ◌%◌, ◌^◌, ◌<◌}
use native.Mathlib.Nat.{div-one, add-zero}
use native.Mathlib.Omega.{arith}
use lib.Dec.{eqb, leb}
use lib.ListN.{length, get_or, drop}
use Rattle.std.specs.Prelude.{Ok}
use borrow.Author.Tests.{eqb-true, eq-eqb, ne_eqb, ltb-true, le-ltb, not-false}
use Rattle.lists.specs.Bytes.{word_at}
use Rattle.lists.specs.Bits.{field}
use Rattle.lists.proofs.Ladder.{ladder_value}
use Rattle.lists.specs.Entries.{all}
use Rattle.lists.proofs.Entries.{entry_or}
use Rattle.lists.proofs.Tests.{and_left, and_right}
use Rattle.fields.specs.Fields.{bad_values}
use Rattle.header.specs.Header.{type_at, length_at, fixed_at, is_power}
use Rattle.tlv.specs.Laws.{is_byte, ReadRewrites}
use Rattle.reader.specs.Read.{exactly_one, added_in, form_in, fields_in, read_refusals, read_of}
use Rattle.writer.specs.Write.{bad_codes, bytes_of}
use Rattle.fields.specs.declared.Fields.{Fields}
use Rattle.fields.specs.declared.Form.TheVariants.{Short, Long}
use Rattle.sizes.specs.Refused.{refused}
use Rattle.header.proofs.Fixed.{four}
use Rattle.reader.proofs.ExactlyOne.{whole, power, lengths}
use Rattle.writer.proofs.Stored.{Answers, accept}

-- what an accepted read says of its bytes
pub taken : (bytes : List ℕ) (f : Fields) → read_of bytes ≡ Ok f → (exactly_one bytes ≡ true) × (bad_values (form_in bytes) ≡ false) × (fields_in bytes ≡ f)
unfolding read_of
taken bytes f e =
    let h = ladder_value refused (Ok (fields_in bytes)) (Ok f) (λ k q. cc) (read_refusals bytes) e in
    (not-false (exactly_one bytes) h.0.1.0, h.0.1.1.0, cc)

-- a list written out, element by element
abbrev tabulate : ℕ → (ℕ → ℕ) → List ℕ
tabulate zero f = []
tabulate (suc n) f = f 0 ∷ tabulate n (λ i. f (suc i))

listed : (b : List ℕ) → b ≡ tabulate (length b) (λ i. get_or b i 0)
listed [] = refl
listed (x ∷ xs) = ap (◌∷◌ x) (listed xs)

-- an octet with 3:2 zero is made of its other three fields
octet : (o : ℕ) → o < 256 → o / 4 % 4 ≡ 0 → 64 * (o / 64 % 4) + 16 * (o / 16 % 4) + o % 4 ≡ o
octet o h z =
    let fours : o / 4 ≡ 4 * (o / 16) + o / 4 % 4 = omega arith in
    let sixteens : o / 16 ≡ 4 * (o / 64) + o / 16 % 4 = omega arith in
    let top : o / 64 % 4 ≡ o / 64 = omega arith in
    let units : o ≡ 4 * (o / 4) + o % 4 = omega arith in
    digits o (o / 4) (o / 16) (o / 64 % 4) (o / 16 % 4) (o % 4) units (rw (z, add-zero) at fours) (rw (← top) at sixteens)
  where
    digits : (o q r a b d : ℕ) → o ≡ 4 * q + d → q ≡ 4 * r → r ≡ 4 * a + b → 64 * a + 16 * b + d ≡ o
    digits o q r a b d x y w = omega arith

-- the two bytes of a number
two : (x y : ℕ) → y < 256 → ((256 * x + y) / 256 ≡ x) × ((256 * x + y) % 256 ≡ y)
two x y h = (omega arith, omega arith)

module _ (b : List ℕ) (bytes : all is_byte b ≡ true) (one : exactly_one b ≡ true) where
  byte : (i : ℕ) → get_or b i 0 < 256
  byte i = ltb-true _ _ (entry_or is_byte 0 b refl bytes i)

  kind : type_at b 0 ≡ 127
  unfolding is_power
  kind = eqb-true _ _ (and_left _ _ (power b one))

  fixed_there : fixed_at b 2 ≡ true
  unfolding is_power
  fixed_there = and_right (leb 4 (length_at b 0)) _ (and_right (eqb (type_at b 0) 127) _ (power b one))

  -- the header's two bytes
  header : (n : ℕ) → n < 256 → length_at b 0 ≡ n → (get_or b 0 0 ≡ 254) × (get_or b 1 0 ≡ n)
  unfolding type_at length_at word_at field
  header n h e =
      let k = kind in
      let l = simp div-one at e in
      let high = byte 0 in
      let low = byte 1 in
      (omega arith, omega arith)

  -- bytes that stand one by one as b's do are b
  same : (n : ℕ) (l : List ℕ) → length_at b 0 + 2 ≡ n → l ≡ tabulate n (λ i. get_or b i 0) → l ≡ b
  same n l e d =
      let size : length b ≡ n = omega (arith, whole b one) in
      d ∙ ap (λ (k : ℕ). tabulate k (λ i. get_or b i 0)) (sym size) ∙ sym (listed b)

  short : length_at b 0 ≡ 7 → bytes_of (fields_in b) ≡ b
  unfolding bytes_of fields_in form_in
  short e =
      let h = header 7 (omega arith) e in
      let f = four b 2 fixed_there in
      same 9 (bytes_of (fields_in b)) (omega arith) (simp (eq-eqb _ 7 e, h.0, h.1, f.0, f.1, f.2, f.3))

  long : length_at b 0 ≡ 12 → field 2 2 (get_or b 9 0) ≡ 0 → bytes_of (fields_in b) ≡ b
  unfolding bytes_of fields_in form_in added_in field word_at
  long e z =
      let h = header 12 (omega arith) e in
      let f = four b 2 fixed_there in
      let other : (length_at b 0 ≡ 7 → ⊥) = λ d. omega arith in
      let o = octet (get_or b 9 0) (byte 9) z in
      let r = two (get_or b 10 0) (get_or b 11 0) (byte 11) in
      let a = two (get_or b 12 0) (get_or b 13 0) (byte 13) in
      same 14 (bytes_of (fields_in b)) (omega arith) (simp (ne_eqb _ 7 other, div-one, o, r.0, r.1, a.0, a.1, h.0, h.1, f.0, f.1, f.2, f.3))

  again : field 2 2 (get_or b 9 0) ≡ 0 → bytes_of (fields_in b) ≡ b
  again z = ⊎_elim short (λ e. long e z) (lengths b one)

-- codes of two bits are not refused
codes : (b : List ℕ) (t : Bool) → bad_codes (cond t Short (Long (added_in b))) ≡ false
unfolding bad_codes added_in field
codes b true = refl
codes b false = simp (le-ltb 3 (get_or b 9 0 / 2 ^ 6 % 2 ^ 2) (omega arith), le-ltb 3 (get_or b 9 0 / 2 ^ 4 % 2 ^ 2) (omega arith), le-ltb 3 (get_or b 9 0 / 2 ^ 0 % 2 ^ 2) (omega arith))

-- the fields that bytes read as are written as those bytes, in any room that is long enough
pub read_rewrites : ReadRewrites
unfolding form_in fields_in
read_rewrites b bytes f e z room h =
    let t = taken b f e in
    let same = again b bytes t.0 z in
    subst (λ (g : Fields). Answers g room (Ok (length b)) (b ++ drop (length b) room)) t.2
    (accept (fields_in b) room (codes b (eqb (length_at b 0) 7)) t.1 (length b) (ap length same) h (b ++ drop (length b) room)
    (ap (λ (l : List ℕ). l ++ drop (length b) room) (sym same)))
