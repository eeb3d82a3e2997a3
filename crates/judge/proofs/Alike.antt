-- What is proved of specs/Alike.
-- Assumes nothing.
use Prim.Native.Nat.{ℕ}
use mathlib.Core.Path.{◌≡◌, refl, sym, ◌∙◌, ap}
use mathlib.Core.Bool.{Bool, true, false}
use mathlib.Core.List.{List}
use lib.Dec.{eqb}
use lib.ListN.{length, get_or}
use lib.Seq.{ext_get_or}
use borrow.Author.Tests.{eqb-true, eq-eqb}
use Rattle.lists.specs.Every.{every}
use Rattle.lists.proofs.Every.{every_at, every_of}
use Rattle.lists.proofs.Tests.{and_left, and_right, and_both}
use Rattle.std.specs.Cmp.Lexicographic.{pointwise}
use Rattle.std.proofs.lemmas.Slice.Eq.{slice_eq-Decides}
use Rattle.std.proofs.lemmas.Bool.Decides.{Decides-eqb}
use Rattle.judge.specs.Alike.{alike, SameIsAlike}

-- that is, the same list
pub alike_is : (a b : List ℕ) → alike a b ≡ true → a ≡ b
unfolding alike
alike_is a b e =
    let long = and_left (eqb (length a) (length b)) (every (length a) (λ k. eqb (get_or a k 0) (get_or b k 0))) e in
    let each = and_right (eqb (length a) (length b)) (every (length a) (λ k. eqb (get_or a k 0) (get_or b k 0))) e in
    ext_get_or 0 a b (eqb-true (length a) (length b) long) (λ k h. eqb-true (get_or a k 0) (get_or b k 0) (every_at (length a) (λ k. eqb (get_or a k 0) (get_or b k 0)) each k h))

-- and every list is alike itself: whatever is lent, there is a `before` with which a program is asked
pub alike_self : (a : List ℕ) → alike a a ≡ true
unfolding alike
alike_self a = and_both _ _ (eq-eqb (length a) (length a) refl) (every_of (length a) (λ k. eqb (get_or a k 0) (get_or a k 0)) (λ k h. eq-eqb (get_or a k 0) (get_or a k 0) refl))

-- both say whether the lists are the same
pub same_is_alike : SameIsAlike
same_is_alike a b = go (pointwise eqb a b) (alike a b) refl refl
  where
    is : (pointwise eqb a b ≡ true → a ≡ b) × (a ≡ b → pointwise eqb a b ≡ true)
    is = slice_eq-Decides Decides-eqb a b (pointwise eqb a b) refl

    go : (x y : Bool) → pointwise eqb a b ≡ x → alike a b ≡ y → pointwise eqb a b ≡ alike a b
    go true y e f = e ∙ sym (ap (alike a) (sym (is.0 e)) ∙ alike_self a)
    go false true e f = is.1 (alike_is a b f) ∙ sym f
    go false false e f = e ∙ sym f
