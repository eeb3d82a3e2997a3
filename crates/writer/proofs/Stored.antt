-- What the writer answers and leaves, case by case; and a run of stores that is a whole TLV.
-- Assumes nothing.
use mathlib.Core.Path.{◌≡◌, ◌∙◌, ap}
use mathlib.Core.Bool.{false}
use mathlib.Core.List.{List, ◌++◌}
use Rattle.std.specs.Prelude.{Result, Ok}
use Prim.Native.Nat.{ℕ, ◌≤◌}
use lib.ListN.{length, drop}
use borrow.Author.Tests.{le-ltb}
use Rattle.std.proofs.lemmas.List.{drop-drop}
use Rattle.fields.specs.Fields.{bad_values}
use Rattle.writer.specs.Write.{bad_codes, added_bytes, head_bytes, bytes_of, written_of, room_after, left}
use Rattle.fields.specs.declared.Fields.{Fields}
use Rattle.fields.specs.declared.Form.TheVariants.{Short, Long}
use Rattle.fields.specs.declared.Added.{Added}
use Rattle.sizes.specs.declared.refusals.Refusal.{Refusal}

-- the promise of the writer
abbrev pub Answers : Fields → List ℕ → Result ℕ Refusal → List ℕ → Type 0
Answers f room w after = (w ≡ written_of f room) × (after ≡ room_after f room)

module _ (f : Fields) where
  pub size_short : f.form ≡ Short → length (bytes_of f) ≡ 9
  unfolding bytes_of
  size_short e = simp e

  pub size_long : (a : Added) → f.form ≡ Long a → length (bytes_of f) ≡ 14
  unfolding bytes_of
  size_long a e = simp e

module _ (f : Fields) (room : List ℕ) where
  -- what is left follows from the answer
  pub leaves : (w : Result ℕ Refusal) (after : List ℕ) → w ≡ written_of f room → after ≡ left w f room → Answers f room w after
  unfolding room_after
  leaves w after e d = (e, d ∙ ap (λ (x : Result ℕ Refusal). left x f room) e)

  module _ (codes : bad_codes f.form ≡ false) (values : bad_values f.form ≡ false) where
    pub accept : (n : ℕ) → length (bytes_of f) ≡ n → n ≤ length room → (after : List ℕ) → after ≡ bytes_of f ++ drop n room → Answers f room (Ok n) after
    unfolding written_of
    accept n size h after e = leaves (Ok n) after (simp (codes, values, size, le-ltb _ _ h)) e

    pub write_short : f.form ≡ Short → 9 ≤ length room → Answers f room (Ok 9) (head_bytes f 7 ++ drop 9 room)
    unfolding bytes_of
    write_short e h = accept 9 (size_short f e) h _ (simp e)

    pub write_long : (a : Added) → f.form ≡ Long a → 14 ≤ length room → Answers f room (Ok 14) (head_bytes f 12 ++ added_bytes a ++ drop 5 (drop 9 room))
    unfolding bytes_of
    write_long a e h = accept 14 (size_long f a e) h _ (simp e (ap (λ (l : List ℕ). head_bytes f 12 ++ added_bytes a ++ l) (drop-drop 5 9 room)))
