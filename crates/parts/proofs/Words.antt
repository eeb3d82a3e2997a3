-- What is proved of specs/Words.
-- Assumes nothing.
use Prim.Native.Nat.{ℕ, zero, suc, ◌+◌, ◌-◌, ◌≤◌, ◌<◌}
use mathlib.Core.Path.{◌≡◌, refl, ◌∙◌, ap}
use mathlib.Core.Bool.{Bool, true, false, cond, not}
use mathlib.Core.List.{List, [], ◌∷◌}
use native.Mathlib.Nat.{not-suc-le-zero}
use native.Mathlib.Numerals.{add-one}
use native.Mathlib.Omega.{arith}
use lib.Dec.{eqb}
use lib.ListN.{length, get_or, take, drop}
use lib.Seq.{drop-cons, drop-length}
use borrow.Author.Tests.{eq-eqb, ne_eqb}
use Rattle.std.specs.List.{prefix_len}
use Rattle.parts.specs.Words.{before, words, word_at}

-- what the loop over a line passes, byte by byte
pub at_space : (l : List ℕ) (i : ℕ) → i < length l → get_or l i 0 ≡ 32 → words (drop i l) ≡ [] ∷ words (drop (i + 1) l)
unfolding words
at_space l i h e = rw (add-one, drop-cons l i 0) (simp (eq-eqb _ _ e))

pub at_other : (l : List ℕ) (i : ℕ) → i < length l → (get_or l i 0 ≡ 32 → ⊥) → words (drop i l) ≡ before (get_or l i 0) (words (drop (i + 1) l))
unfolding words
at_other l i h n = rw (add-one, drop-cons l i 0) (simp (ne_eqb _ _ n))

pub at_end : (l : List ℕ) (i : ℕ) → i ≡ length l → words (drop i l) ≡ [] ∷ []
unfolding words
at_end l i e = rw (e, drop-length)

-- a line has a word
pub some_word : (l : List ℕ) → 1 ≤ length (words l)
unfolding words before
some_word [] = omega arith
some_word (b ∷ l) = go (eqb b 32) (words l)
  where
    go : (t : Bool) (ws : List (List ℕ)) → 1 ≤ length (cond t ([] ∷ ws) (before b ws))
    go true ws = omega arith
    go false [] = omega arith
    go false (w ∷ ws) = omega arith

pub count_before : (b : ℕ) (ws : List (List ℕ)) → 1 ≤ length ws → length (before b ws) ≡ length ws
unfolding before
count_before b [] h = absurd (not-suc-le-zero h)
count_before b (w ∷ ws) h = refl

pub first_before : (b : ℕ) (ws : List (List ℕ)) → get_or (before b ws) 0 [] ≡ b ∷ get_or ws 0 []
unfolding before
first_before b [] = refl
first_before b (w ∷ ws) = refl

pub later_before : (b : ℕ) (ws : List (List ℕ)) (k : ℕ) → get_or (before b ws) (suc k) [] ≡ get_or ws (suc k) []
unfolding before
later_before b [] k = refl
later_before b (w ∷ ws) k = refl

-- the first word ends at the first space
pub first_word : (l : List ℕ) → word_at l 0 ≡ take (prefix_len (λ b. not (eqb b 32)) l) l
unfolding word_at words
first_word [] = refl
first_word (b ∷ l) = go (eqb b 32) (first_word l)
  where
    go : (t : Bool) → word_at l 0 ≡ take (prefix_len (λ b. not (eqb b 32)) l) l → get_or (cond t ([] ∷ words l) (before b (words l))) 0 [] ≡ take (cond (not t) (1 + prefix_len (λ b. not (eqb b 32)) l) 0) (b ∷ l)
    go true e = refl
    go false e = first_before b (words l) ∙ ap (λ (w : List ℕ). b ∷ w) e ∙ ap (λ (k : ℕ). take k (b ∷ l)) (let n : suc (prefix_len (λ c. not (eqb c 32)) l) ≡ 1 + prefix_len (λ c. not (eqb c 32)) l = omega arith in n)

module _ (l : List ℕ) (i : ℕ) (h : i < length l) where
  -- one more byte passed, as the loop counts the words
  pub more_words : get_or l i 0 ≡ 32 → length (words (drop i l)) ≡ 1 + length (words (drop (i + 1) l))
  more_words e = ap length (at_space l i h e) ∙ omega arith

  pub same_words : (get_or l i 0 ≡ 32 → ⊥) → length (words (drop i l)) ≡ length (words (drop (i + 1) l))
  same_words n = ap length (at_other l i h n) ∙ count_before (get_or l i 0) (words (drop (i + 1) l)) (some_word (drop (i + 1) l))

  -- as it seeks the word after k spaces
  pub seek_space : (k : ℕ) → (k ≡ 0 → ⊥) → get_or l i 0 ≡ 32 → word_at (drop i l) k ≡ word_at (drop (i + 1) l) (k - 1)
  unfolding word_at
  seek_space zero z e = absurd (z refl)
  seek_space (suc k) z e = ap (λ (ws : List (List ℕ)). get_or ws (suc k) []) (at_space l i h e)
      ∙ ap (λ (j : ℕ). get_or (words (drop (i + 1) l)) j []) (let f : k ≡ suc k - 1 = omega arith in f)

  pub seek_other : (k : ℕ) → (k ≡ 0 → ⊥) → (get_or l i 0 ≡ 32 → ⊥) → word_at (drop i l) k ≡ word_at (drop (i + 1) l) k
  unfolding word_at
  seek_other zero z n = absurd (z refl)
  seek_other (suc k) z n = ap (λ (ws : List (List ℕ)). get_or ws (suc k) []) (at_other l i h n) ∙ later_before (get_or l i 0) (words (drop (i + 1) l)) k

-- at the end of the line the last word ends, and no other begins
pub past_end : (l : List ℕ) (i k : ℕ) → i ≡ length l → word_at (drop i l) k ≡ []
unfolding word_at
past_end l i zero e = ap (λ (ws : List (List ℕ)). get_or ws 0 []) (at_end l i e)
past_end l i (suc k) e = ap (λ (ws : List (List ℕ)). get_or ws (suc k) []) (at_end l i e)
