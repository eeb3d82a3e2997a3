-- What is proved of specs/Room.
-- Assumes nothing.
use Prim.Native.Nat.{ℕ, suc, ◌+◌, ◌-◌, ◌≤◌, ◌<◌}
use mathlib.Core.Path.{◌≡◌, refl, sym, ◌∙◌, ap, ap₂}
use mathlib.Core.List.{List, [], ◌∷◌, ◌++◌, append_assoc, append-nil}
use mathlib.Core.Logic.{⊎_elim}
use native.Mathlib.Omega.{arith}
use native.Mathlib.Numerals.{add-one}
use lib.ListN.{length, get_or, take, drop, set, length-append, length-set, take-append-drop, drop_of_length-le}
use lib.Seq.{sets, length-sets, take_all, take-nil, take-suc, take-suc-set, drop-set-lt, set_out, length-take-le}
use Rattle.lists.proofs.Places.{side}
use Rattle.text.specs.Room.{placed, past}

-- what a function that writes s promises
abbrev pub Put : List ℕ → ℕ → List ℕ → ℕ → List ℕ → Type 0
Put room at s r after = (r ≡ past room at s) × (after ≡ placed room at s)

module _ (room : List ℕ) (at : ℕ) (h : length room ≤ at) where
  -- a full room stays as it is
  full_placed : (s : List ℕ) → placed room at s ≡ room
  unfolding placed
  full_placed s =
      let z : length room - at ≡ 0 = omega arith in
      ap₂ ◌++◌ (take_all at room h)
      (ap₂ ◌++◌ (ap (λ (k : ℕ). take k s) z) (drop_of_length-le room {i = at + length s} (omega arith)))
      ∙ append-nil room

  full_past : (s : List ℕ) → past room at s ≡ at
  unfolding past
  full_past s = let z : length room - at ≡ 0 = omega arith in ap (λ (k : ℕ). at + length (take k s)) z ∙ omega arith

  full_sets : (s : List ℕ) (k : ℕ) → at ≤ k → sets room k s ≡ room
  full_sets [] k g = refl
  full_sets (b ∷ s) k g = ap (λ (l : List ℕ). sets l (suc k) s) (set_out room k b (omega arith)) ∙ full_sets s (suc k) (omega arith)

-- byte by byte it is the same
placed_sets : (s room : List ℕ) (at : ℕ) → placed room at s ≡ sets room at s
unfolding placed
placed_sets [] room at =
    ap₂ (λ (t d : List ℕ). take at room ++ (t ++ d)) (take-nil (length room - at)) (ap (λ (k : ℕ). drop k room) (let z : at + 0 ≡ at = omega arith in z))
    ∙ take-append-drop at room
placed_sets (b ∷ s) room at = ⊎_elim (λ (h : at < length room). inside h (placed_sets s (set room at b) (suc at))) (λ (h : length room ≤ at). full_placed room at h (b ∷ s) ∙ sym (full_sets room at h (b ∷ s) at (omega arith))) (side at (length room))
  where
    inside : at < length room → placed (set room at b) (suc at) s ≡ sets (set room at b) (suc at) s → take at room ++ (take (length room - at) (b ∷ s) ++ drop (at + length (b ∷ s)) room) ≡ sets (set room at b) (suc at) s
    inside h i =
        let k : ℕ = length room - suc at in
        let e : length room - at ≡ suc k = omega arith in
        let f : at + suc (length s) ≡ suc at + length s = omega arith in
        let g : length (set room at b) - suc at ≡ k = rw length-set in
        sym (sym i
        ∙ ap₂ (λ (t d : List ℕ). t ++ d) (take-suc-set room at b h)
        (ap₂ (λ (t d : List ℕ). t ++ d) (ap (λ (j : ℕ). take j s) g) (drop-set-lt (suc at + length s) room at b (omega arith)))
        ∙ append_assoc (take at room) (b ∷ []) (take k s ++ drop (suc at + length s) room)
        ∙ sym (ap₂ (λ (j i : ℕ). take at room ++ (take j (b ∷ s) ++ drop i room)) e f))

sets_append : (s t room : List ℕ) (at : ℕ) → sets room at (s ++ t) ≡ sets (sets room at s) (at + length s) t
sets_append [] t room at = ap (λ (k : ℕ). sets room k t) (let z : at ≡ at + 0 = omega arith in z)
sets_append (b ∷ s) t room at = sets_append s t (set room at b) (suc at) ∙ ap (λ (k : ℕ). sets (sets (set room at b) (suc at) s) k t) (let z : suc at + length s ≡ at + suc (length s) = omega arith in z)

pub length_placed : (room : List ℕ) (at : ℕ) (s : List ℕ) → length (placed room at s) ≡ length room
length_placed room at s = ap length (placed_sets s room at) ∙ length-sets room at s

-- the place after what fits: the end of the text, or of the room
past_within : (room : List ℕ) (at : ℕ) (s : List ℕ) → at + length s ≤ length room → past room at s ≡ at + length s
unfolding past
past_within room at s h = ap (λ (l : List ℕ). at + length l) (take_all (length room - at) s (omega arith))

past_beyond : (room : List ℕ) (at : ℕ) (s : List ℕ) → at ≤ length room → length room ≤ at + length s → past room at s ≡ length room
unfolding past
past_beyond room at s h g = let e = length-take-le (length room - at) s (omega arith) in omega arith

module _ (room : List ℕ) (at : ℕ) (s t : List ℕ) where
  -- one text after another is the two in one
  pub placed_more : placed (placed room at s) (past room at s) t ≡ placed room at (s ++ t)
  placed_more =
      placed_sets t (placed room at s) (past room at s)
      ∙ ap (λ (r : List ℕ). sets r (past room at s) t) (placed_sets s room at)
      ∙ ⊎_elim
      (λ (h : length room < at + length s). beyond h)
      (λ (h : at + length s ≤ length room). ap (λ (k : ℕ). sets (sets room at s) k t) (past_within room at s h))
      (side (length room) (at + length s))
      ∙ sym (sets_append s t room at)
      ∙ sym (placed_sets (s ++ t) room at)
    where
      reach : length room < at + length s → length room ≤ past room at s
      reach h = ⊎_elim (λ (g : at < length room). let e = past_beyond room at s (omega arith) (omega arith) in omega arith) (λ (g : length room ≤ at). let e = full_past room at g s in omega arith) (side at (length room))

      beyond : length room < at + length s → sets (sets room at s) (past room at s) t ≡ sets (sets room at s) (at + length s) t
      beyond h =
          let e = length-sets room at s in
          let f = reach h in
          full_sets (sets room at s) (length room) (omega arith) t (past room at s) f
          ∙ sym (full_sets (sets room at s) (length room) (omega arith) t (at + length s) (omega arith))

  pub past_more : past (placed room at s) (past room at s) t ≡ past room at (s ++ t)
  past_more =
      ⊎_elim
      (λ (g : at < length room). ⊎_elim (λ (h : length room < at + length s). over g h) (λ (h : at + length s ≤ length room). within h) (side (length room) (at + length s)))
      (λ (g : length room ≤ at).
      let e = length_placed room at s in
      let p = full_past room at g s in
      full_past (placed room at s) (past room at s) (omega arith) t ∙ p ∙ sym (full_past room at g (s ++ t)))
      (side at (length room))
    where
      over : at < length room → length room < at + length s → past (placed room at s) (past room at s) t ≡ past room at (s ++ t)
      over g h =
          let e = length_placed room at s in
          let p = past_beyond room at s (omega arith) (omega arith) in
          let q = length-append s t in
          full_past (placed room at s) (past room at s) (omega arith) t ∙ p ∙ sym (past_beyond room at (s ++ t) (omega arith) (omega arith))

      within : at + length s ≤ length room → past (placed room at s) (past room at s) t ≡ past room at (s ++ t)
      within h =
          let e = length_placed room at s in
          let p = past_within room at s h in
          let q = length-append s t in
          ⊎_elim
          (λ (g : length room < at + length (s ++ t)). past_beyond (placed room at s) (past room at s) t (omega arith) (omega arith) ∙ e ∙ sym (past_beyond room at (s ++ t) (omega arith) (omega arith)))
          (λ (g : at + length (s ++ t) ≤ length room). past_within (placed room at s) (past room at s) t (omega arith) ∙ sym (past_within room at (s ++ t) g ∙ omega arith))
          (side (length room) (at + length (s ++ t)))

-- one text written after another
pub put_more : (room : List ℕ) (at : ℕ) (s t : List ℕ) (to r : ℕ) (mid after : List ℕ) → Put room at s to mid → Put mid to t r after → Put room at (s ++ t) r after
put_more room at s t to r mid after p q = (
  q.0 ∙ ap₂ (λ (l : List ℕ) (k : ℕ). past l k t) p.1 p.0 ∙ past_more room at s t,
  q.1 ∙ ap₂ (λ (l : List ℕ) (k : ℕ). placed l k t) p.1 p.0 ∙ placed_more room at s t,
)

-- one byte, with room for it and without
pub put_byte : (room : List ℕ) (at b : ℕ) → at < length room → Put room at (b ∷ []) (at + 1) (set room at b)
put_byte room at b h = (sym (past_within room at (b ∷ []) (omega arith)), sym (placed_sets (b ∷ []) room at))

pub put_full : (room : List ℕ) (at : ℕ) (s : List ℕ) → length room ≤ at → Put room at s at room
put_full room at s h = (sym (full_past room at h s), sym (full_placed room at h s))

pub put_none : (room : List ℕ) (at : ℕ) → Put room at [] at room
unfolding past
put_none room at = (sym (ap (λ (l : List ℕ). at + length l) (take-nil (length room - at)) ∙ omega arith), sym (placed_sets [] room at))

-- one byte more of those that a loop passes
pub take_next : (l : List ℕ) (i : ℕ) → i < length l → take (i + 1) l ≡ take i l ++ (get_or l i 0 ∷ [])
take_next l i h = rw add-one (take-suc l i 0 h)
