-- What the search will answer, from what it has seen and the walk that is left.
-- Assumes nothing.
use mathlib.Core.Path.{◌≡◌, refl, sym, ap, ◌∙◌}
use mathlib.Core.Bool.{Bool, true, false, cond}
use mathlib.Core.List.{List, [], ◌∷◌}
use Rattle.std.specs.Prelude.{Result, Ok}
use Prim.Native.Nat.{ℕ, suc, ◌+◌, ◌≤◌}
use native.Mathlib.Omega.{arith}
use lib.Dec.{eqb, ltb}
use lib.ListN.{length, get_or}
use borrow.Author.Tests.{lt-ltb, le-ltb}
use Rattle.header.specs.Header.{size_at, is_power}
use Rattle.search.specs.Search.{is_cut, powers, powers_in, part_at, search_of}
use Rattle.walk.specs.Walk.{step_of, Walk, ended, tlv, walk_from}
use Rattle.search.specs.Seen.{another, noted_of, answer_of}
use Rattle.walk.proofs.Walked.{whole, walk_ended, walk_cut, walk_tlv}
use Rattle.walk.specs.declared.Step.TheVariants.{End, Cut, Tlv}
use Rattle.search.specs.declared.Seen.{Seen}
use Rattle.search.specs.declared.Seen.TheVariants.{Nothing, One, More}
use Rattle.search.specs.declared.Found.{Found}
use Rattle.sizes.specs.declared.refusals.Refusal.{Refusal}
use Rattle.sizes.specs.Refused.{refused}

-- the power TLVs seen, with those that are still to come
abbrev join : List ℕ → Seen → List ℕ → Result Found Refusal
join bytes Nothing [] = refused 7
join bytes Nothing (at ∷ []) = part_at bytes at
join bytes Nothing (at ∷ (next ∷ rest)) = refused 8
join bytes (One first) [] = Ok first
join bytes (One first) (next ∷ rest) = refused 8
join bytes More rest = refused 8

-- the answer of a search that has seen so much, and has this walk before it
abbrev pub outlook : List ℕ → Seen → Walk → Result Found Refusal
outlook bytes seen w = cond (is_cut w) (refused 6) (join bytes seen (powers bytes w))

pub allowed : (bytes : List ℕ) → length bytes ≤ 1500 → search_of bytes ≡ outlook bytes Nothing (walk_from bytes 0)
unfolding search_of
allowed bytes h = simp (le-ltb _ _ h) (ap (cond (is_cut (walk_from bytes 0)) (refused 6)) (counted (powers_in bytes)))
  where
    counted : (ps : List ℕ) → cond (ltb 1 (length ps)) (refused 8) (cond (eqb (length ps) 0) (refused 7) (part_at bytes (get_or ps 0 0))) ≡ join bytes Nothing ps
    counted [] = refl
    counted (at ∷ []) = refl
    counted (at ∷ (next ∷ rest)) = simp (lt-ltb 1 (suc (suc (length rest))) (omega arith))

at_end : (bytes : List ℕ) (seen : Seen) → outlook bytes seen ended ≡ answer_of seen
unfolding answer_of powers is_cut
at_end bytes Nothing = refl
at_end bytes (One first) = refl
at_end bytes More = refl

-- the TLV at a place, of so many bytes
abbrev pub tlv_of : ℕ → ℕ → Found
tlv_of at size = record { start = at; size = size }

module _ (bytes : List ℕ) (at : ℕ) where
  joined : (seen : Seen) (rest : List ℕ) → join bytes seen (at ∷ rest) ≡ join bytes (another seen (tlv_of at (size_at bytes at))) rest
  joined Nothing [] = refl
  joined Nothing (next ∷ rest) = refl
  joined (One first) rest = refl
  joined More rest = refl

  decided : (t : Bool) (seen : Seen) (rest : List ℕ) → join bytes seen (cond t (at ∷ rest) rest) ≡ join bytes (cond t (another seen (tlv_of at (size_at bytes at))) seen) rest
  decided true seen rest = joined seen rest
  decided false seen rest = refl

  at_tlv : (seen : Seen) (w : Walk) → outlook bytes seen (tlv at w) ≡ outlook bytes (noted_of bytes (tlv_of at (size_at bytes at)) seen) w
  unfolding powers is_cut noted_of
  at_tlv seen w = ap (cond (is_cut w) (refused 6)) (decided (is_power bytes at) seen (powers bytes w))

  pub ends : (seen : Seen) → step_of bytes at ≡ End → outlook bytes seen (walk_from bytes at) ≡ answer_of seen
  ends seen e = ap (outlook bytes seen) (walk_ended bytes at e) ∙ at_end bytes seen

  pub breaks : (seen : Seen) → step_of bytes at ≡ Cut → outlook bytes seen (walk_from bytes at) ≡ refused 6
  unfolding is_cut
  breaks seen e = ap (outlook bytes seen) (walk_cut bytes at e)

  pub goes_on : (seen next : Seen) (size : ℕ) → step_of bytes at ≡ Tlv size → next ≡ noted_of bytes (tlv_of at size) seen
      → outlook bytes seen (walk_from bytes at) ≡ outlook bytes next (walk_from bytes (at + size))
  goes_on seen next size e d =
      ap (outlook bytes seen) (walk_tlv bytes at size e)
      ∙ at_tlv seen (walk_from bytes (at + size))
      ∙ ap (λ (s : Seen). outlook bytes s (walk_from bytes (at + size))) (ap (λ (n : ℕ). noted_of bytes (tlv_of at n) seen) (sym (whole bytes at size e).says) ∙ sym d)
