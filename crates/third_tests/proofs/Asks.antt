-- What is proved of specs/Asks.
-- Assumes nothing.
use Prim.Native.Nat.{ℕ, ◌*◌}
use mathlib.Core.Path.{◌≡◌, refl, sym, ◌∙◌, ap, ap₂}
use mathlib.Core.Bool.{Bool, true, not, ◌&&◌, ◌||◌}
use mathlib.Core.List.{List, [], ◌∷◌}
use lib.Dec.{leb, ltb, eqb}
use lib.ListN.{length}
use borrow.Author.Tests.{leb-true, eqb-true}
use Rattle.lists.specs.Every.{every}
use Rattle.lists.proofs.Tests.{and_left, and_right, not_or, not_ltb}
use Rattle.third_tests.specs.Asks.{flags_clear, asks, Asked}

pub asked_so : (n : ℕ) (block : List ℕ) (less more : ℕ) → asks n block less more ≡ true → Asked n block less more
unfolding asks
asked_so n block less more e =
    let ports = and_left (leb 1 n && leb n 48) _ e in
    let rest = and_right (leb 1 n && leb n 48) _ e in
    let figures = and_left (leb less more && leb more 60000) _ rest in
    let bytes = and_right (leb less more && leb more 60000) _ rest in
    record {
      one = leb-true 1 n (and_left (leb 1 n) _ ports);
      most = leb-true n 48 (and_right (leb 1 n) _ ports);
      le = leb-true less more (and_left (leb less more) _ figures);
      range = leb-true more 60000 (and_right (leb less more) _ figures);
      whole = eqb-true (length block) (14 * n) (and_left (eqb (length block) (14 * n)) _ bytes);
      clear = and_right (eqb (length block) (14 * n)) _ bytes;
    }

-- two tests of a range, as the program makes them
pub range_is : (x y u v : ℕ) (b : Bool) → (ltb x y || ltb u v) ≡ b → (leb y x && leb v u) ≡ not b
range_is x y u v b e = sym (not_or (ltb x y) (ltb u v) ∙ ap₂ ◌&&◌ (not_ltb x y) (not_ltb u v)) ∙ ap not e

-- it is asked of real arguments: one port, fourteen bytes, 3.9 W and 15.4 W
pub asked_of_one : asks 1 (0 ∷ 0 ∷ 0 ∷ 0 ∷ 0 ∷ 0 ∷ 0 ∷ 0 ∷ 39 ∷ 16 ∷ 0 ∷ 0 ∷ 0 ∷ 2 ∷ []) 39 154 ≡ true
unfolding asks flags_clear every
asked_of_one = refl
