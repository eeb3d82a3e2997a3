-- What is proved of specs/Hex.
-- Assumes nothing.
use Prim.Native.Nat.{ℕ, ◌+◌, ◌-◌, ◌/◌, ◌%◌, ◌≤◌, ◌<◌}
use mathlib.Core.Path.{◌≡◌, refl, sym, ◌∙◌, ap}
use mathlib.Core.Bool.{Bool, true, false, ◌&&◌, ◌||◌}
use mathlib.Core.List.{List, [], ◌∷◌, ◌++◌}
use mathlib.Core.Logic.{⊎_elim}
use native.Mathlib.Omega.{arith}
use lib.Dec.{leb, ltb, eqb}
use lib.ListN.{length, get_or, drop, length-append, length-drop, get_or-append}
use lib.Seq.{ext_get_or, get_or-append-add, get_or-drop}
use borrow.Author.Tests.{ltb-true, lt-ltb, le-ltb, le-leb, lt-leb, eq-eqb, ne_eqb}
use Rattle.lists.specs.Every.{every}
use Rattle.lists.specs.Places.{tabulate, Filled}
use Rattle.lists.proofs.Places.{length_tabulate, get_d_tabulate, side}
use Rattle.lists.proofs.Tests.{and_both, or_right}
use Rattle.std.specs.Prelude.{Option, Some, None}
use Rattle.std.specs.Char.{is_ascii_hexdigit}
use Rattle.std.specs.Bool.{MatchBool}
use Rattle.std.specs.List.{AllWithin, HoldsAt}
use Rattle.std.proofs.lemmas.Bool.Decides.{nat_tests}
use Rattle.lists.proofs.Every.{every_of, every_not}
use Rattle.parts.specs.Hex.{nibble_of, digit_in, is_hex, glyph_of, hex_of, bytes_in, is_dash, is_pairs, takes, bytes_of, room_after}

and_no : (a b : Bool) → b ≡ false → (a && b) ≡ false
and_no true b e = e
and_no false b e = refl

-- one byte more
pub hex_more : (bytes : List ℕ) (b : ℕ) → hex_of (bytes ++ (b ∷ [])) ≡ hex_of bytes ++ (glyph_of (b / 16) ∷ glyph_of (b % 16) ∷ [])
unfolding hex_of
hex_more [] b = refl
hex_more (a ∷ bytes) b = ap (λ (l : List ℕ). glyph_of (a / 16) ∷ glyph_of (a % 16) ∷ l) (hex_more bytes b)

pub hex_small : (b : ℕ) → is_hex b ≡ true → nibble_of b < 16
unfolding is_hex
hex_small b e = ltb-true (nibble_of b) 16 e

-- the byte's test in the library's words
hex_is : (b : ℕ) → is_hex b ≡ is_ascii_hexdigit b
unfolding is_hex nibble_of
hex_is b = grind (arith, nat_tests)

-- what a test of every byte says
pub all_hex : (w : List ℕ) (r : Bool) → MatchBool r (AllWithin (λ b. is_ascii_hexdigit b ≡ true) w 0 (length w)) ((k : ℕ) × (k < length w) × HoldsAt (λ b. is_ascii_hexdigit b ≡ false) w k) → r ≡ every (length w) (λ p. is_hex (get_or w p 0))
all_hex w true h = sym (every_of (length w) (λ p. is_hex (get_or w p 0)) (λ p l. hex_is (get_or w p 0) ∙ h p 0 (omega arith) l))
all_hex w false h = sym (every_not (length w) (λ p. is_hex (get_or w p 0)) h.0 h.1 (hex_is (get_or w h.0 0) ∙ h.2 0))

-- what a hex digit says
pub digit_is : (b : ℕ) → is_hex b ≡ true → digit_in b ≡ Some (nibble_of b)
unfolding digit_in
digit_is b e = rw e

-- a room that a loop has filled up to n: what stands from n on is as it was
pub filled_front : (f : ℕ → ℕ) (old : List ℕ) (n : ℕ) (now : List ℕ) → n ≤ length old → Filled 0 f old n now → now ≡ tabulate n f ++ drop n old
filled_front f old n now h F =
    ext_get_or 0 now (tabulate n f ++ drop n old)
    (F.long ∙ simp (length-append, length_tabulate, length-drop) (omega arith))
    (λ p l.
    ⊎_elim
    (λ (k : p < n).
    F.done p k
    ∙ sym (get_or-append (tabulate n f) (drop n old) 0 p (rw length_tabulate k) ∙ get_d_tabulate n f 0 p k))
    (λ (g : n ≤ p).
    let e : length (tabulate n f) + (p - n) ≡ p = rw length_tabulate (omega arith) in
    F.left p g
    ∙ sym (ap (λ (j : ℕ). get_or (tabulate n f ++ drop n old) j 0) (sym e) ∙ get_or-append-add (tabulate n f) (drop n old) (p - n) 0 ∙ get_or-drop n old (p - n) 0 ∙ ap (λ (j : ℕ). get_or old j 0) (let q : n + (p - n) ≡ p = omega arith in q)))
    (side p n))

no_dash : (w : List ℕ) → (w ≡ 45 ∷ [] → ⊥) → is_dash w ≡ false
unfolding is_dash
no_dash [] n = refl
no_dash (b ∷ []) n = ne_eqb b 45 (λ e. n (ap (λ (x : ℕ). x ∷ []) e))
no_dash (a ∷ b ∷ w) n = simp (ne_eqb (length (a ∷ b ∷ w)) 1 (λ e. omega arith))

-- what `bytes_of` answers and leaves
abbrev pub Took : List ℕ → List ℕ → Option ℕ → List ℕ → Type 0
Took w room r after = (r ≡ bytes_of w room) × (after ≡ room_after w room)

module _ (w room : List ℕ) where
  pub took : takes w room ≡ true → Took w room (Some (length w / 2)) (bytes_in w ++ drop (length w / 2) room)
  unfolding bytes_of room_after
  took e = (simp e, simp e)

  pub left : takes w room ≡ false → Took w room None room
  unfolding bytes_of room_after
  left e = (simp e, simp e)

  no_pairs : (w ≡ 45 ∷ [] → ⊥) → is_pairs w ≡ false → Took w room None room
  unfolding takes
  no_pairs d p = left (simp (no_dash w d, p))

  pub empty : length w ≡ 0 → Took w room None room
  unfolding is_pairs
  empty h = no_pairs (λ e. omega (arith, ap length e)) (simp (le-ltb 0 (length w) (omega arith)))

  pub odd : (w ≡ 45 ∷ [] → ⊥) → (length w % 2 ≡ 0 → ⊥) → Took w room None room
  unfolding is_pairs
  odd d n = no_pairs d (and_no (ltb 0 (length w)) _ (simp (ne_eqb _ _ n)))

  pub small : length room < length w / 2 → Took w room None room
  unfolding takes
  small h = left (and_no (is_dash w || is_pairs w) (leb (length w / 2) (length room)) (lt-leb (length w / 2) (length room) h))

  pub other : (w ≡ 45 ∷ [] → ⊥) → every (length w) (λ p. is_hex (get_or w p 0)) ≡ false → Took w room None room
  unfolding is_pairs
  other d e =
      no_pairs d
      (and_no (ltb 0 (length w)) (eqb (length w % 2) 0 && every (length w) (λ p. is_hex (get_or w p 0))) (and_no (eqb (length w % 2) 0) (every (length w) (λ p. is_hex (get_or w p 0))) e))

  pub pairs : 0 < length w → length w % 2 ≡ 0 → length w / 2 ≤ length room → every (length w) (λ p. is_hex (get_or w p 0)) ≡ true → takes w room ≡ true
  unfolding takes is_pairs
  pairs h e l t =
      and_both (is_dash w || is_pairs w) (leb (length w / 2) (length room))
      (or_right (is_dash w) (is_pairs w) (simp (lt-ltb 0 (length w) h, eq-eqb _ _ e, t)))
      (le-leb _ _ l)

pub dash : (w room : List ℕ) → w ≡ 45 ∷ [] → Took w room (Some 0) room
unfolding takes is_dash bytes_in tabulate
dash w room e = rw e (took (45 ∷ []) room (le-leb 0 (length room) (omega arith)))
