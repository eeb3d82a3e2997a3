-- The rule of the limits' table, and what a walk over it holds.
-- Assumes nothing.
use Prim.Native.Nat.{ℕ, zero, suc, ◌+◌, ◌≤◌, ◌<◌}
use mathlib.Core.Path.{◌≡◌, refl, sym, ◌∙◌, ap}
use mathlib.Core.Bool.{true, cond}
use mathlib.Core.List.{List, [], ◌∷◌}
use native.Mathlib.Nat.{le_of_suc-le-suc}
use native.Mathlib.Numerals.{add-one}
use native.Mathlib.Omega.{arith}
use lib.Dec.{leb, ltb}
use lib.ListN.{get_or, drop}
use lib.Seq.{drop-cons}
use borrow.Author.Tests.{le-leb, lt-leb, ltb-true}
use Rattle.std.proofs.Common.{Option, Some, None}
use Rattle.lists.specs.Every.{every}
use Rattle.lists.proofs.Every.{every_at}
use Rattle.class.specs.Class.{class_of}

-- the code's table
abbrev pub limits : List ℕ
limits = 5000 ∷ 13000 ∷ 21000 ∷ 31000 ∷ 45000 ∷ []

abbrev pub limit : ℕ → ℕ
limit k = get_or limits k 0

-- what a table of limits says, its first entry that of class k: the class of the first limit that the current is not past
unfoldable said : List ℕ → ℕ → ℕ → Option ℕ
said [] k i = None
said (l ∷ ls) k i = cond (leb i l) (Some k) (said ls (k + 1) i)

-- The rule of the table. Its entries are the limits of the definition: the two say the same, over the whole table
said_by_all : (i : ℕ) → class_of i ≡ said limits 0 i
unfolding class_of said
said_by_all i = refl

-- and so at each entry
said_at : (k i : ℕ) → k < 5 → said (drop k limits) k i ≡ cond (leb i (limit k)) (Some k) (said (drop (suc k) limits) (k + 1) i)
unfolding said
said_at k i h = ap (λ ls. said ls k i) (drop-cons limits k 0 h)

-- And it rises: the test is computed once over the whole table
rising : every 4 (λ k. ltb (limit k) (limit (suc k))) ≡ true
unfolding every
rising = refl

-- and so at each entry
rises : (k : ℕ) → k < 4 → limit k < limit (suc k)
rises k h = ltb-true (limit k) (limit (suc k)) (every_at 4 (λ k. ltb (limit k) (limit (suc k))) rising k h)

-- the current is past the limit before that of class k, if there is one; since the table rises, past all before it
abbrev pub Past : ℕ → ℕ → Type 0
Past zero i = Unit {0}
Past (suc k) i = limit k < i

past_before : (k i : ℕ) → k < 5 → limit k < i → Past k i
past_before zero i h p = tt
past_before (suc k) i h p = omega (arith, rises k (le_of_suc-le-suc h), p)

-- then what the table says is said from class k on
said_from : (k i : ℕ) → k ≤ 5 → Past k i → class_of i ≡ said (drop k limits) k i
said_from zero i h p = said_by_all i
said_from (suc k) i h p =
    said_from k i (omega (arith, h)) (past_before k i h p) ∙ said_at k i h ∙ simp (lt-leb i (limit k) p, add-one)

-- "to 13,000 class 1": past the limit before and up to its own, a current has the class
pub up_to_limit : (k i : ℕ) → k < 5 → Past k i → i ≤ limit k → Some k ≡ class_of i
up_to_limit k i h p l = sym (said_from k i (omega (arith, h)) p ∙ said_at k i h ∙ simp (le-leb i (limit k) l))

-- "above, failure"
pub past_all : (i : ℕ) → Past 5 i → None ≡ class_of i
unfolding said
past_all i p = sym (said_from 5 i (omega arith) p)

-- what the walk holds after k limits: the current is past the limit before that class, and not past its own if that was among them
abbrev pub Walked : ℕ → ℕ → ℕ → Type 0
Walked class k i = (class ≤ k) × Past class i × (class < k → i ≤ limit class)
