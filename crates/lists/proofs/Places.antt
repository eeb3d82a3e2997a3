-- What is proved of specs/Places.
-- Assumes nothing.
use mathlib.Core.Path.{◌≡◌, refl, sym, ◌∙◌, ap, ap₂}
use mathlib.Core.Bool.{Bool, true, false, cond}
use mathlib.Core.List.{List, ◌∷◌}
use mathlib.Core.Logic.{◌⊎◌, inl, inr, ⊎_elim}
use Prim.Native.Nat.{ℕ, zero, suc, ◌+◌, ◌≤◌, ◌<◌}
use native.Mathlib.Nat.{le_of_suc-le-suc, not-suc-le-zero, eq-or-lt_of_le}
use native.Mathlib.Omega.{arith}
use lib.Dec.{ltb}
use lib.ListN.{length, get_or, set, replicate, length-set, length-replicate, get_or-replicate}
use lib.Seq.{ext_get_or, get_or-set_same, get_or-set_other}
use borrow.Author.Tests.{lt-ltb, le-ltb, ltb-true, ltb-false}
use Rattle.lists.specs.Places.{tabulate, Filled}

-- a place is below n or not
pub side : (p n : ℕ) → (p < n) ⊎ (n ≤ p)
side p n = go (ltb p n) refl
  where
    go : (t : Bool) → ltb p n ≡ t → (p < n) ⊎ (n ≤ p)
    go true e = inl (ltb-true p n e)
    go false e = inr (ltb-false p n e)

module _ {A : Type 0} where
  pub length_tabulate : (n : ℕ) (f : ℕ → A) → length (tabulate n f) ≡ n
  unfolding tabulate
  length_tabulate zero f = refl
  length_tabulate (suc n) f = ap suc (length_tabulate n (λ p. f (suc p)))

  pub get_d_tabulate : (n : ℕ) (f : ℕ → A) (d : A) (p : ℕ) → p < n → get_or (tabulate n f) p d ≡ f p
  unfolding tabulate
  get_d_tabulate zero f d p h = absurd (not-suc-le-zero h)
  get_d_tabulate (suc n) f d zero h = refl
  get_d_tabulate (suc n) f d (suc p) h = get_d_tabulate n (λ p. f (suc p)) d p (le_of_suc-le-suc h)

  -- a list of n elements is given by them
  pub tabulated : (n : ℕ) (f : ℕ → A) (d : A) (l : List A) → length l ≡ n → ((p : ℕ) → p < n → get_or l p d ≡ f p) → l ≡ tabulate n f
  tabulated n f d l e h =
      ext_get_or d l (tabulate n f) (e ∙ sym (length_tabulate n f))
      (λ p k. let b : p < n = omega (arith, e) in h p b ∙ sym (get_d_tabulate n f d p b))

  -- two rules whose lists are one, as the checker computes them, are one at each place of the list
  pub tabulate_at : (n : ℕ) (f g : ℕ → A) → tabulate n f ≡ tabulate n g → (p : ℕ) → p < n → f p ≡ g p
  tabulate_at n f g e p h = sym (get_d_tabulate n f (f p) p h) ∙ ap (λ (l : List A). get_or l p (f p)) e ∙ get_d_tabulate n g (f p) p h

  pub tabulate_cong : (n : ℕ) (f g : ℕ → A) → ((p : ℕ) → p < n → f p ≡ g p) → tabulate n f ≡ tabulate n g
  unfolding tabulate
  tabulate_cong zero f g h = refl
  tabulate_cong (suc n) f g h = ap₂ ◌∷◌ (h 0 (omega arith)) (tabulate_cong n (λ p. f (suc p)) (λ p. g (suc p)) (λ p l. h (suc p) (omega arith)))

  module _ (d : A) (f : ℕ → A) (old : List A) where
    pub filled_none : Filled d f old 0 old
    filled_none = record { long = refl; done = λ p h. absurd (not-suc-le-zero h); left = λ p h. refl }

    pub filled_more : (i : ℕ) (now : List A) (v : A) → Filled d f old i now → i < length old → v ≡ f i → Filled d f old (i + 1) (set now i v)
    filled_more i now v F h e =
        record {
          long = length-set now i v ∙ F.long;
          done = λ p l.
              ⊎_elim
              (λ (q : p ≡ i). rw q (get_or-set_same now i v d (omega (arith, F.long)) ∙ e))
              (λ (k : p < i). get_or-set_other now i p v d (λ q. omega arith) ∙ F.done p k)
              (eq-or-lt_of_le {n = p} {m = i} (omega arith));
          left = λ p l. get_or-set_other now i p v d (λ q. omega arith) ∙ F.left p (omega arith);
        }

    -- filled to the end
    pub filled_all : (n : ℕ) (now : List A) → length old ≡ n → Filled d f old n now → now ≡ tabulate n f
    filled_all n now e F = tabulated n f d now (F.long ∙ e) F.done

    -- filled below n: what stands from n on is as it was
    pub filled_below : (m n : ℕ) (now : List A) → length old ≡ m → Filled d f old n now → now ≡ tabulate m (λ p. cond (ltb p n) (f p) (get_or old p d))
    filled_below m n now e F =
        tabulated m (λ p. cond (ltb p n) (f p) (get_or old p d)) d now (F.long ∙ e)
        (λ p h.
        ⊎_elim
        (λ (l : p < n). simp (lt-ltb p n l) (F.done p l))
        (λ (g : n ≤ p). simp (le-ltb p n g) (F.left p g))
        (side p n))

  -- filled below n, over a list of one value
  pub filled_over : (d : A) (f : ℕ → A) (v : A) (m n : ℕ) (now : List A) → Filled d f (replicate m v) n now → now ≡ tabulate m (λ p. cond (ltb p n) (f p) v)
  filled_over d f v m n now F =
      filled_below d f (replicate m v) m n now (length-replicate m v) F
      ∙ tabulate_cong m (λ p. cond (ltb p n) (f p) (get_or (replicate m v) p d)) (λ p. cond (ltb p n) (f p) v)
      (λ p l. ap (cond (ltb p n) (f p)) (get_or-replicate m p v d l))
