-- What `all` and `any` over a range answer, in the words of `every` and `some_below`.
-- Assumes nothing.
use Rattle.std.proofs.Common.{◌≡◌, ℕ, suc, zero, ◌+◌, Bool, true, false, ◌&&◌, ◌||◌, List, [], ◌∷◌, ◌++◌, refl, ap, ap₂, ◌∙◌, arith}
use Rattle.std.specs.List.{range_with_len, list_all, list_any}
use Rattle.std.proofs.lemmas.List.Folds.{list_all-append, list_any-append}
use Rattle.lists.specs.Every.{every, some_below}

-- one place more at the end
range_more : (n a : ℕ) → range_with_len a (suc n) ≡ range_with_len a n ++ ((a + n) ∷ [])
range_more zero a = let e : a ≡ a + 0 = omega arith in ap (λ (k : ℕ). k ∷ []) e
range_more (suc n) a =
    let e : (a + 1) + n ≡ a + suc n = omega arith in
    ap (λ (l : List ℕ). a ∷ l) (range_more n (a + 1) ∙ ap (λ (k : ℕ). range_with_len (a + 1) n ++ (k ∷ [])) e)

and_last : (a b : Bool) → (a && (b && true)) ≡ (a && b)
and_last a true = refl
and_last a false = refl

or_last : (a b : Bool) → (a || (b || false)) ≡ (a || b)
or_last a true = refl
or_last a false = refl

pub every_range : (n : ℕ) (f : ℕ → Bool) → list_all f (range_with_len 0 n) ≡ every n f
unfolding every
every_range zero f = refl
every_range (suc n) f =
    let e : 0 + n ≡ n = omega arith in
    ap (list_all f) (range_more n 0) ∙ list_all-append f (range_with_len 0 n) ((0 + n) ∷ []) ∙ and_last (list_all f (range_with_len 0 n)) (f (0 + n))
    ∙ ap₂ ◌&&◌ (every_range n f) (ap f e)

pub some_range : (n : ℕ) (f : ℕ → Bool) → list_any f (range_with_len 0 n) ≡ some_below n f
unfolding some_below
some_range zero f = refl
some_range (suc n) f =
    let e : 0 + n ≡ n = omega arith in
    ap (list_any f) (range_more n 0) ∙ list_any-append f (range_with_len 0 n) ((0 + n) ∷ []) ∙ or_last (list_any f (range_with_len 0 n)) (f (0 + n))
    ∙ ap₂ ◌||◌ (some_range n f) (ap f e)
