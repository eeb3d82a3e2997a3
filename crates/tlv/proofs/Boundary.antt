-- The part that the search hands back starts at a boundary of the walk, and is a whole power TLV.
-- Assumes nothing.
use mathlib.Core.Path.{◌≡◌, ◌∙◌, refl, sym, ap, subst}
use mathlib.Core.Bool.{Bool, true, false, cond, true≢false}
use mathlib.Core.List.{List, [], ◌∷◌}
use Prim.Native.Nat.{ℕ, zero, suc, ◌+◌, ◌-◌, ◌<◌, ◌≤◌}
use native.Mathlib.Nat.{add-zero, add_assoc}
use native.Mathlib.Omega.{arith}
use lib.Dec.{eqb}
use lib.ListN.{length, get_or, take, drop, length-drop}
use Rattle.std.specs.Prelude.{Ok}
use lib.Seq.{get_or-take, get_or-drop, length-take-le}
use borrow.Author.Tests.{leb-true}
use Rattle.lists.specs.Bytes.{word_at}
use Rattle.lists.proofs.Ladder.{ladder_value}
use Rattle.lists.proofs.Tests.{and_left, and_right}
use Rattle.header.specs.Header.{type_at, length_at, size_at, fixed_at, is_power}
use Rattle.tlv.specs.Laws.{Boundary, start, next, PowerAt, OnePower, FoundPower, TakenPower}
use Rattle.search.specs.Search.{powers, powers_in, search_refusals, part_at, search_of}
use Rattle.walk.specs.Walk.{step_of, Walk, onward, walk, walk_from}
use Rattle.walk.proofs.Walked as Walked
use Rattle.walk.specs.declared.Step.{Step}
use Rattle.walk.specs.declared.Step.TheVariants.{End, Cut, Tlv}
use Rattle.search.specs.declared.Found.{Found}
use Rattle.sizes.specs.Refused.{refused}
use Rattle.tlv.proofs.ReadRewrites.{taken}
use Rattle.header.proofs.Fixed.{spelt}
use Rattle.reader.proofs.ExactlyOne.{whole, power}

-- each place has one, of the size that its header says
abbrev Every : List ℕ → List ℕ → Type 0
Every bytes [] = Unit
Every bytes (x ∷ xs) = PowerAt bytes x (size_at bytes x) × Every bytes xs

module _ (bytes : List ℕ) where
  -- a power TLV joins those of the walk after it
  joins : (at : ℕ) (rest : List ℕ) → Boundary bytes at → step_of bytes at ≡ Tlv (size_at bytes at) → Every bytes rest → (t : Bool) → is_power bytes at ≡ t
      → Every bytes (cond t (at ∷ rest) rest)
  joins at rest b w h true e = (record { boundary = b; whole = w; power = e }, h)
  joins at rest b w h false e = h

  stepped : (at : ℕ) (rest : ℕ → Walk) → ((p : ℕ) → Boundary bytes p → Every bytes (powers bytes (rest p))) → Boundary bytes at
      → (s : Step) → step_of bytes at ≡ s → Every bytes (powers bytes (onward s at rest))
  unfolding powers
  stepped at rest more b End e = tt
  stepped at rest more b Cut e = tt
  stepped at rest more b (Tlv size) e =
      joins at (powers bytes (rest (at + size))) b (e ∙ ap Tlv (Walked.whole bytes at size e).says) (more (at + size) (next at size b e)) (is_power bytes at) refl

  every : (n at : ℕ) → Boundary bytes at → Every bytes (powers bytes (walk n bytes at))
  unfolding walk powers
  every zero at b = tt
  every (suc n) at b = stepped at (walk n bytes) (every n) b (step_of bytes at) refl

  -- the first of them, where there is one
  first : (ps : List ℕ) → Every bytes ps → eqb (length ps) 0 ≡ false → PowerAt bytes (get_or ps 0 0) (size_at bytes (get_or ps 0 0))
  first [] h e = absurd (true≢false e)
  first (p ∷ rest) h e = h.0

  at_boundary : (found : Found) → search_of bytes ≡ Ok found → PowerAt bytes found.start found.size
  unfolding search_of walk_from
  at_boundary found e =
      let only = get_or (powers_in bytes) 0 0 in
      let clear = ladder_value refused (part_at bytes only) (Ok found) (λ k q. cc) (search_refusals bytes) e in
      let it : record { start = only; size = size_at bytes only } ≡ found = cc in
      subst (λ (f : Found). PowerAt bytes f.start f.size) it (first (powers_in bytes) (every (length bytes - 0) 0 start) clear.0.1.1.1.0)

-- the part has the bytes that stand from its start on, so it has the same header and the same four bytes
module _ (bytes : List ℕ) (at size : ℕ) (p : PowerAt bytes at size) where
  abbrev part : List ℕ
  part = take size (drop at bytes)

  there : Walked.Whole bytes at size
  there = Walked.whole bytes at size p.whole

  byte : (i : ℕ) → i < size → get_or part i 0 ≡ get_or bytes (at + i) 0
  byte i h = get_or-take size (drop at bytes) i 0 h ∙ get_or-drop at bytes i 0

  word : word_at part 0 ≡ word_at bytes at
  unfolding word_at
  word = let w = there.header in simp (byte 0 (omega arith), byte 1 (omega arith), add-zero)

  long : 4 ≤ length_at bytes at
  unfolding is_power
  long = leb-true 4 _ (and_left _ _ (and_right (eqb (type_at bytes at) 127) _ p.power))

  same_size : size_at part 0 ≡ size
  unfolding size_at length_at
  same_size = simp word (sym there.says)

  six : 6 ≤ size
  unfolding size_at
  six = omega (arith, long, there.says)

  same_fixed : fixed_at part 2 ≡ fixed_at bytes (at + 2)
  same_fixed =
      let h = six in
      spelt part 2
      ∙ simp (byte 2 (omega arith), byte 3 (omega arith), byte 4 (omega arith), byte 5 (omega arith))
      (sym (spelt bytes (at + 2) ∙ simp add_assoc))

  same_power : is_power part 0 ≡ true
  unfolding is_power type_at length_at
  same_power = simp (word, same_fixed) p.power

  one_power : OnePower part
  one_power =
      let w = there in
      record { whole = length-take-le size (drop at bytes) (simp length-drop (omega arith)) ∙ sym same_size; power = same_power }

pub found_power : FoundPower
found_power bytes found e = let p = at_boundary bytes found e in (p, one_power bytes found.start found.size p)

pub taken_power : TakenPower
unfolding size_at
taken_power bytes f e = let one = (taken bytes f e).0 in record { whole = whole bytes one; power = power bytes one }
