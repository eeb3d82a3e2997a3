-- The tests mean the demand, of any core: what it reads is the fields that were handed in, what it writes is the bytes that were, and the
-- rest of the room is as it was. So a comparison that is left out, in code and definition alike, is refused here.
-- Assumes nothing.
use Prim.Native.Nat.{ℕ}
use mathlib.Core.Path.{◌≡◌, refl, ap}
use mathlib.Core.Bool.{Bool, true, false, cond, not, ◌&&◌, false≢true}
use mathlib.Core.List.{List}
use lib.Dec.{eqb, ltb}
use lib.ListN.{length, take, drop}
use Rattle.std.specs.Prelude.{Result, Ok, Err}
use borrow.Author.Tests.{eqb-true, not-false}
use Rattle.lists.proofs.Tests.{and_left, and_right}
use Rattle.fields.specs.declared.Added.{Added}
use Rattle.fields.specs.declared.Fields.{Fields}
use Rattle.fields.specs.declared.Form.{Form}
use Rattle.fields.specs.declared.Form.TheVariants.{Short, Long}
use Rattle.reader.specs.Read.{read_of}
use Rattle.sizes.specs.declared.refusals.Refusal.{Refusal}
use Rattle.judge.specs.Alike.{alike}
use Rattle.judge.proofs.Alike.{alike_is}
use Rattle.second_frames.specs.Right.{tlv_size, is_taken, reads_as, written_right, rewritten_right}
use Rattle.second_frames.specs.Same.{same_added, same_form, same_fields}

-- ---- the same fields

added_are : (x y : Added) → same_added x y ≡ true → x ≡ y
unfolding same_added
added_are x y e =
    let k = eqb x.kind y.kind in
    let s = eqb x.source y.source in
    let p = eqb x.priority y.priority in
    let r = eqb x.requested y.requested in
    let a = eqb x.allocated y.allocated in
    let four = and_left (((k && s) && p) && r) a e in
    let three = and_left ((k && s) && p) r four in
    let two = and_left (k && s) p three in
    let kind = eqb-true x.kind y.kind (and_left k s two) in
    let source = eqb-true x.source y.source (and_right k s two) in
    let priority = eqb-true x.priority y.priority (and_right (k && s) p three) in
    let requested = eqb-true x.requested y.requested (and_right ((k && s) && p) r four) in
    let allocated = eqb-true x.allocated y.allocated (and_right (((k && s) && p) && r) a e) in
    λ i. record { kind = kind i; source = source i; priority = priority i; requested = requested i; allocated = allocated i }

form_is : (x y : Form) → same_form x y ≡ true → x ≡ y
unfolding same_form
form_is Short Short e = refl
form_is Short (Long b) e = absurd (false≢true e)
form_is (Long a) Short e = absurd (false≢true e)
form_is (Long a) (Long b) e = ap Long (added_are a b e)

pub fields_are : (x y : Fields) → same_fields x y ≡ true → x ≡ y
unfolding same_fields
fields_are x y e =
    let s = eqb x.support y.support in
    let p = eqb x.pair y.pair in
    let k = eqb x.class y.class in
    let three = and_left ((s && p) && k) (same_form x.form y.form) e in
    let two = and_left (s && p) k three in
    let support = eqb-true x.support y.support (and_left s p two) in
    let pair = eqb-true x.pair y.pair (and_right s p two) in
    let class = eqb-true x.class y.class (and_right (s && p) k three) in
    let form = form_is x.form y.form (and_right ((s && p) && k) (same_form x.form y.form) e) in
    λ i. record { support = support i; pair = pair i; class = class i; form = form i }

-- whatever the reader answered
pub taken_is : (t : Result Fields Refusal) (f : Fields) → is_taken t f ≡ true → t ≡ Ok f
taken_is (Ok g) f e = ap Ok (fields_are g f e)
taken_is (Err r) f e = absurd (false≢true e)

-- ---- the same bytes

-- a test that comes first was not failed
past_test : (t b : Bool) → cond t false b ≡ true → (t ≡ false) × (b ≡ true)
past_test true b e = absurd (false≢true e)
past_test false b e = (refl, e)

module _ (n : ℕ) (room before : List ℕ) where
  -- "Whatever is written reads back as written"; "Room past a written TLV keeps its bytes."
  pub written_means : (f : Fields) → written_right f n room before ≡ true → (n ≡ tlv_size f.form) × (read_of (take n room) ≡ Ok f) × (drop n before ≡ drop n room)
  unfolding written_right reads_as
  written_means f e =
      let one = past_test (not (eqb n (tlv_size f.form))) _ e in
      let two = past_test (ltb (length room) n) _ one.1 in
      let both = (past_test (ltb (length before) n) _ two.1).1 in
      (eqb-true n (tlv_size f.form) (not-false (eqb n (tlv_size f.form)) one.0), taken_is (read_of (take n room)) f (and_left _ _ both), alike_is (drop n before) (drop n room) (and_right (reads_as (take n room) f) _ both))

  -- "are rewritten the same"
  pub rewritten_means : (bytes : List ℕ) → rewritten_right bytes n room before ≡ true → (bytes ≡ take n room) × (drop n before ≡ drop n room)
  unfolding rewritten_right
  rewritten_means bytes e =
      let one = past_test (ltb (length room) n) _ e in
      let both = (past_test (ltb (length before) n) _ one.1).1 in
      (alike_is bytes (take n room) (and_left _ _ both), alike_is (drop n before) (drop n room) (and_right (alike bytes (take n room)) _ both))
