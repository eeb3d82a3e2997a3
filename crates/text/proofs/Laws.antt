-- What pins the definitions, with no recursion to read: the words of a line are the parts between its spaces, and what is written reads back.
-- Assumes nothing.
use Prim.Native.Nat.{ℕ, zero, suc, ◌+◌, ◌-◌, ◌*◌, ◌/◌, ◌%◌, ◌^◌, ◌≤◌, ◌<◌}
use mathlib.Core.Path.{◌≡◌, refl, sym, ◌∙◌, ap, ap₂}
use mathlib.Core.Bool.{Bool, true, false, cond, not}
use mathlib.Core.List.{List, [], ◌∷◌, ◌++◌}
use mathlib.Core.Logic.{◌⊎◌, inl, inr, ⊎_elim}
use native.Mathlib.Nat.{mul_assoc, pow-suc, eq-or-lt_of_le, le_of_suc-le-suc, not-suc-le-zero}
use native.Mathlib.Omega.{arith}
use lib.Dec.{eqb, ltb}
use lib.ListN.{length, get_or, drop, length-append, get_or-append}
use lib.Seq.{get_or-append_seam}
use borrow.Author.Tests.{lt-ltb, le-leb, eqb-true, ltb-true, ltb-false}
use Rattle.lists.proofs.Every.{every_of}
use Rattle.lists.specs.Places.{tabulate}
use Rattle.lists.proofs.Places.{tabulate_at, tabulated, side}
use Rattle.lists.specs.Entries.{all}
use Rattle.parts.specs.Decimal.{is_digit, value, is_number, number_in, spelt, decimal, most}
use Rattle.parts.specs.Hex.{nibble_of, is_hex, pair_of, glyph_of, hex_of, bytes_in, bytes_of, room_after}
use Rattle.parts.proofs.Hex.{took, pairs}
use Rattle.parts.specs.Words.{before, words}
use Rattle.parts.proofs.Words.{some_word}
use Rattle.std.specs.Prelude.{Some}

-- words with a space before each
unfoldable pub spaced : List (List ℕ) → List ℕ
spaced [] = []
spaced (w ∷ ws) = 32 ∷ (w ++ spaced ws)

-- words with one space between each and the next
unfoldable pub joined : List (List ℕ) → List ℕ
joined [] = []
joined (w ∷ ws) = w ++ spaced ws

space_first : (ws : List (List ℕ)) → 1 ≤ length ws → spaced ws ≡ 32 ∷ joined ws
unfolding spaced joined
space_first [] h = absurd (not-suc-le-zero h)
space_first (w ∷ ws) h = refl

joined_before : (b : ℕ) (ws : List (List ℕ)) → joined (before b ws) ≡ b ∷ joined ws
unfolding joined before spaced
joined_before b [] = refl
joined_before b (w ∷ ws) = refl

no_word : joined ([] ∷ []) ≡ []
unfolding joined spaced
no_word = refl

none_first : (ws : List (List ℕ)) → joined ([] ∷ ws) ≡ spaced ws
unfolding joined
none_first ws = refl

-- a line is its words with one space between each and the next
pub words_joined : (l : List ℕ) → joined (words l) ≡ l
unfolding words
words_joined [] = no_word
words_joined (b ∷ l) = go (eqb b 32) refl (words_joined l)
  where
    go : (t : Bool) → eqb b 32 ≡ t → joined (words l) ≡ l → joined (cond t ([] ∷ words l) (before b (words l))) ≡ b ∷ l
    go true e i = none_first (words l) ∙ space_first (words l) (some_word l) ∙ ap₂ ◌∷◌ (sym (eqb-true b 32 e)) i
    go false e i = joined_before b (words l) ∙ ap (λ (r : List ℕ). b ∷ r) i

-- any byte but a space
abbrev pub other : ℕ → Bool
other b = not (eqb b 32)

no_spaces : all (all other) ([] ∷ []) ≡ true
unfolding all
no_spaces = refl

next : (ws : List (List ℕ)) → all (all other) ws ≡ true → all (all other) ([] ∷ ws) ≡ true
unfolding all
next ws h = h

longer : (b : ℕ) (ws : List (List ℕ)) → eqb b 32 ≡ false → all (all other) ws ≡ true → all (all other) (before b ws) ≡ true
unfolding all before
longer b [] e h = simp e
longer b (w ∷ ws) e h = simp e h

-- and no word has one
pub words_whole : (l : List ℕ) → all (all other) (words l) ≡ true
unfolding words
words_whole [] = no_spaces
words_whole (b ∷ l) = go (eqb b 32) refl (words_whole l)
  where
    go : (t : Bool) → eqb b 32 ≡ t → all (all other) (words l) ≡ true → all (all other) (cond t ([] ∷ words l) (before b (words l))) ≡ true
    go true e i = next (words l) i
    go false e i = longer b (words l) e i

-- one digit more
value_more : (w : List ℕ) (b : ℕ) → value (w ++ (b ∷ [])) ≡ 10 * value w + (b - 48)
unfolding value
value_more [] b = omega arith
value_more (a ∷ w) b =
    let e : length (w ++ (b ∷ [])) ≡ suc (length w) = length-append w (b ∷ []) ∙ omega arith in
    let f : (a - 48) * 10 ^ suc (length w) ≡ (a - 48) * 10 ^ length w * 10 = ap (λ (x : ℕ). (a - 48) * x) (pow-suc 10 (length w)) ∙ sym (mul_assoc (a - 48) (10 ^ length w) 10) in
    ap₂ (λ (k v : ℕ). (a - 48) * 10 ^ k + v) e (value_more w b) ∙ sum ((a - 48) * 10 ^ suc (length w)) ((a - 48) * 10 ^ length w) (value w) (b - 48) f
  where
    sum : (x y v d : ℕ) → x ≡ y * 10 → x + (10 * v + d) ≡ 10 * (y + v) + d
    sum x y v d g = omega arith

-- digits, and nothing else
pub record Digits (w : List ℕ) : Type 0 where
  pub some : 0 < length w
  pub each : (p : ℕ) → p < length w → is_digit (get_or w p 0) ≡ true

digit : (d : ℕ) → d < 10 → is_digit (48 + d) ≡ true
unfolding is_digit
digit d h = simp (le-leb 48 (48 + d) (omega arith), le-leb (48 + d) 57 (omega arith))

digits_more : (w : List ℕ) (d : ℕ) → d < 10 → ((p : ℕ) → p < length w → is_digit (get_or w p 0) ≡ true) → Digits (w ++ ((48 + d) ∷ []))
digits_more w d h D =
    let e = length-append w ((48 + d) ∷ []) in
    record {
      some = omega arith;
      each = λ p l.
          ⊎_elim
          (λ (q : p ≡ length w). rw q (ap is_digit (get_or-append_seam w (48 + d) [] 0) ∙ digit d h))
          (λ (k : p < length w). ap is_digit (get_or-append w ((48 + d) ∷ []) 0 p k) ∙ D p k)
          (eq-or-lt_of_le {n = p} {m = length w} (omega arith));
    }

-- digits that say a number
abbrev pub Says : List ℕ → ℕ → Type 0
Says w n = Digits w × (value w ≡ n)

one_says : (n : ℕ) → n < 10 → Says ((48 + n) ∷ []) n
unfolding value
one_says n h = (digits_more [] n h (λ p g. absurd (not-suc-le-zero g)), omega arith)

more_says : (w : List ℕ) (n : ℕ) → Says w (n / 10) → Says (w ++ ((48 + n % 10) ∷ [])) n
more_says w n s = (digits_more w (n % 10) (omega arith) s.0.each, value_more w (48 + n % 10) ∙ said (value w) s.1)
  where
    said : (v : ℕ) → v ≡ n / 10 → 10 * v + (48 + n % 10 - 48) ≡ n
    said v e = omega arith

tenth : (k n : ℕ) → n < 10 ^ suc k → n / 10 < 10 ^ k
tenth k n h = go n (10 ^ k) (rw pow-suc at h)
  where
    go : (x y : ℕ) → x < y * 10 → x / 10 < y
    go x y g = omega arith

spelt_says : (k n : ℕ) → n < 10 ^ suc k → Says (spelt (suc k) n) n
unfolding spelt
spelt_says zero n h = simp (lt-ltb n 10 (omega arith)) (one_says n (omega arith))
spelt_says (suc k) n h = go (ltb n 10) refl (spelt_says k (n / 10) (tenth (suc k) n h))
  where
    go : (t : Bool) → ltb n 10 ≡ t → Says (spelt (suc k) (n / 10)) (n / 10) → Says (cond t ((48 + n) ∷ []) (spelt (suc k) (n / 10) ++ ((48 + n % 10) ∷ []))) n
    go true e s = one_says n (ltb-true n 10 e)
    go false e s = more_says (spelt (suc k) (n / 10)) n s

-- a number that is written reads back as that number
pub number_back : (n : ℕ) → n ≤ most → number_in (decimal n) ≡ Some n
unfolding decimal number_in is_number
number_back n h =
    let s = spelt_says 19 n (omega arith) in
    simp (
      s.1,
      lt-ltb 0 (length (spelt 20 n)) s.0.some,
      every_of (length (spelt 20 n)) (λ p. is_digit (get_or (spelt 20 n) p 0)) s.0.each,
      le-leb n most h,
    )

-- and no zero stands in front of it
spelt_first : (k n : ℕ) → 0 < n → n < 10 ^ suc k → get_or (spelt (suc k) n) 0 0 ≡ 48 → ⊥
unfolding spelt
spelt_first zero n p h = simp (lt-ltb n 10 (omega arith)) (λ e. omega arith)
spelt_first (suc k) n p h = go (ltb n 10) refl (spelt_first k (n / 10))
  where
    go : (t : Bool) → ltb n 10 ≡ t → (0 < n / 10 → n / 10 < 10 ^ suc k → get_or (spelt (suc k) (n / 10)) 0 0 ≡ 48 → ⊥) → get_or (cond t ((48 + n) ∷ []) (spelt (suc k) (n / 10) ++ ((48 + n % 10) ∷ []))) 0 0 ≡ 48 → ⊥
    go true e i q = omega arith
    go false e i q =
        let l = tenth (suc k) n h in
        let s = spelt_says k (n / 10) l in
        let g = ltb-false n 10 e in
        i (omega arith) l (sym (get_or-append (spelt (suc k) (n / 10)) ((48 + n % 10) ∷ []) 0 0 s.0.some) ∙ q)

pub number_plain : (n : ℕ) → 0 < n → n ≤ most → get_or (decimal n) 0 0 ≡ 48 → ⊥
unfolding decimal
number_plain n p h = spelt_first 19 n p (omega arith)

-- a digit that is written reads back
glyph_back : (n : ℕ) → n < 16 → nibble_of (glyph_of n) ≡ n
unfolding nibble_of glyph_of tabulate
glyph_back n h = tabulate_at 16 (λ m. nibble_of (glyph_of m)) (λ m. m) refl n h

glyph_hex : (n : ℕ) → n < 16 → is_hex (glyph_of n) ≡ true
unfolding is_hex
glyph_hex n h = let e = glyph_back n h in lt-ltb (nibble_of (glyph_of n)) 16 (omega arith)

hex_length : (bytes : List ℕ) → length (hex_of bytes) ≡ 2 * length bytes
unfolding hex_of
hex_length [] = refl
hex_length (b ∷ bytes) = let i = hex_length bytes in omega arith

hex_high : (bytes : List ℕ) (k : ℕ) → k < length bytes → get_or (hex_of bytes) (2 * k) 0 ≡ glyph_of (get_or bytes k 0 / 16)
unfolding hex_of
hex_high [] k h = absurd (not-suc-le-zero h)
hex_high (b ∷ bytes) zero h = refl
hex_high (b ∷ bytes) (suc k) h = ap (λ (j : ℕ). get_or (hex_of (b ∷ bytes)) j 0) (let e : 2 * suc k ≡ suc (suc (2 * k)) = omega arith in e) ∙ hex_high bytes k (le_of_suc-le-suc h)

hex_low : (bytes : List ℕ) (k : ℕ) → k < length bytes → get_or (hex_of bytes) (2 * k + 1) 0 ≡ glyph_of (get_or bytes k 0 % 16)
unfolding hex_of
hex_low [] k h = absurd (not-suc-le-zero h)
hex_low (b ∷ bytes) zero h = refl
hex_low (b ∷ bytes) (suc k) h = ap (λ (j : ℕ). get_or (hex_of (b ∷ bytes)) j 0) (let e : 2 * suc k + 1 ≡ suc (suc (2 * k + 1)) = omega arith in e) ∙ hex_low bytes k (le_of_suc-le-suc h)

module _ (bytes : List ℕ) (small : (p : ℕ) → p < length bytes → get_or bytes p 0 < 256) where
  high_small : (k : ℕ) → k < length bytes → get_or bytes k 0 / 16 < 16
  high_small k h = let s = small k h in omega arith

  hex_each : (p : ℕ) → p < length (hex_of bytes) → is_hex (get_or (hex_of bytes) p 0) ≡ true
  hex_each p h =
      let k : ℕ = p / 2 in
      let n = hex_length bytes in
      let l : k < length bytes = omega arith in
      ⊎_elim
      (λ (e : p ≡ 2 * k). ap (λ (j : ℕ). is_hex (get_or (hex_of bytes) j 0)) e ∙ ap is_hex (hex_high bytes k l) ∙ glyph_hex (get_or bytes k 0 / 16) (high_small k l))
      (λ (e : 2 * k < p). ap (λ (j : ℕ). is_hex (get_or (hex_of bytes) j 0)) (let q : p ≡ 2 * k + 1 = omega arith in q) ∙ ap is_hex (hex_low bytes k l) ∙ glyph_hex (get_or bytes k 0 % 16) (omega arith))
      (even (side (2 * k) p))
    where
      even : (2 * (p / 2) < p) ⊎ (p ≤ 2 * (p / 2)) → (p ≡ 2 * (p / 2)) ⊎ (2 * (p / 2) < p)
      even (inl g) = inr g
      even (inr g) = inl (omega arith)

  hex_back : bytes_in (hex_of bytes) ≡ bytes
  unfolding bytes_in
  hex_back =
      let n = hex_length bytes in
      sym
      (tabulated (length (hex_of bytes) / 2) (λ k. pair_of (get_or (hex_of bytes) (2 * k) 0) (get_or (hex_of bytes) (2 * k + 1) 0)) 0 bytes (omega arith)
      (λ p h.
      let l : p < length bytes = omega arith in
      let a : nibble_of (get_or (hex_of bytes) (2 * p) 0) ≡ get_or bytes p 0 / 16 = ap nibble_of (hex_high bytes p l) ∙ glyph_back (get_or bytes p 0 / 16) (high_small p l) in
      let b : nibble_of (get_or (hex_of bytes) (2 * p + 1) 0) ≡ get_or bytes p 0 % 16 = ap nibble_of (hex_low bytes p l) ∙ glyph_back (get_or bytes p 0 % 16) (omega arith) in
      omega arith))

  -- bytes that are written read back as those bytes
  pub bytes_back : (room : List ℕ) → 0 < length bytes → length bytes ≤ length room → (Some (length bytes) ≡ bytes_of (hex_of bytes) room) × (bytes ++ drop (length bytes) room ≡ room_after (hex_of bytes) room)
  bytes_back room h l =
      let n = hex_length bytes in
      let e : length (hex_of bytes) / 2 ≡ length bytes = omega arith in
      let t = took (hex_of bytes) room (pairs (hex_of bytes) room (omega arith) (omega arith) (omega arith) (every_of (length (hex_of bytes)) (λ p. is_hex (get_or (hex_of bytes) p 0)) hex_each)) in
      (ap Some (sym e) ∙ t.0, ap₂ (λ (b : List ℕ) (k : ℕ). b ++ drop k room) (sym hex_back) (sym e) ∙ t.1)
