-- Every call is judged to have held: by the first statement of the C functions, whose numbers are these calls' answers.
-- Assumes nothing.
use Prim.Native.Nat.{ℕ, ◌≤◌}
use mathlib.Core.Path.{◌≡◌, sym, ◌∙◌, ap}
use mathlib.Core.Bool.{Bool, true, false, cond, not, ◌&&◌}
use mathlib.Core.List.{List}
use Rattle.std.specs.Prelude.{Result, Ok, Err}
use native.Mathlib.Omega.{arith}
use lib.Dec.{eqb}
use borrow.Author.Tests.{eq-eqb, ne_eqb}
use Rattle.verdict.specs.declared.Verdict.{Verdict}
use Rattle.verdict.specs.declared.Verdict.TheVariants.{Held, NotAsked, Broken}
use Rattle.sizes.specs.Refused.{number}
use Rattle.sizes.proofs.Refused.{numbered}
use Rattle.sizes.specs.declared.refusals.Refusal.{Refusal}
use Rattle.ipaqsuni.specs.Outcome.{number_of}

-- what the two functions of judge.rt answer
abbrev pub judged_answer : ℕ → Verdict
judged_answer first = cond (eqb first 0) Held Broken

abbrev pub judged_refusal : ℕ → ℕ → Bool → Verdict
judged_refusal first number unchanged = cond ((eqb number first && not (eqb number 0)) && unchanged) Held Broken

some_number : (k : Refusal) → 1 ≤ number k
some_number k = let h = numbered k in omega arith

-- what a refusal has to be: the first number, none is 0, and what is left is what was there
pub record Due (first number : ℕ) (left before : List ℕ) : Type 0 where
  pub is_first : number ≡ first
  pub some : 1 ≤ number
  pub same : left ≡ before

-- what is not asked is not called
pub not_asked : (asked : Bool) (left before : List ℕ) → asked ≡ false → (NotAsked ≡ cond asked Held NotAsked) × (before ≡ cond asked left before)
not_asked asked left before e = (simp e, simp e)

-- the call that answered is the one that had to, and the cells are what it left
module _ (asked : Bool) (is : asked ≡ true) (verdict : Verdict) (first : ℕ) (after left before : List ℕ) (leaves : after ≡ left) where
  pub held_answer : verdict ≡ judged_answer first → first ≡ 0 → (verdict ≡ cond asked Held NotAsked) × (after ≡ cond asked left before)
  held_answer v e = (simp (v, eq-eqb first 0 e, is), simp is leaves)

  pub held_refusal : (number expected : ℕ) (unchanged : Bool) → verdict ≡ judged_refusal first number unchanged → first ≡ expected → Due expected number left before
      → (left ≡ before → unchanged ≡ true) → (verdict ≡ cond asked Held NotAsked) × (after ≡ cond asked left before)
  held_refusal number expected unchanged v f r kept =
      (simp (v, eq-eqb number first (r.is_first ∙ sym f), ne_eqb number 0 (λ z. omega (arith, r.some)), kept r.same, is), simp is leaves)

-- of a call that answers with this number of the list of what can be refused
module _ {A : Type 0} (answer : Result A Refusal) (first : ℕ) (is : number_of answer ≡ first) where
  -- it answered: no condition holds
  pub answered : (x : A) → answer ≡ Ok x → first ≡ 0
  answered x e = sym is ∙ ap number_of e

  -- it refused: with the first number, and what is left is what was there
  pub refused : (k : Refusal) (left before : List ℕ) → answer ≡ Err k → ((number_of answer ≡ 0 → ⊥) → left ≡ before) → Due first (number k) left before
  refused k left before e kept =
      let n : number_of answer ≡ number k = ap number_of e in
      record { is_first = sym n ∙ is; some = some_number k; same = kept (λ z. numbered k (sym n ∙ z)) }
