-- `claim` goes by the state before. Assumes nothing.
use Rattle.std.proofs.Common.{◌≡◌, ℕ, ◌+◌, ◌<◌, ◌^◌, true, false, List, ltb, get_or, refl, sym, ◌∙◌, arith}
use lib.ListN.{get_or-eq_default}
use Rattle.std.proofs.lemmas.List.{get_or_default}
use borrow.Author.Tests.{eq-eqb, ne_eqb, ltb-true, ltb-false}
use Rattle.lists.specs.Entries.{all}
use Rattle.lists.proofs.Entries.{entry_or}
use Rattle.class.specs.Class.{budgets}
use Rattle.second.specs.Answers.{closed_cell}
use Rattle.second_sharing.specs.Shared.{claim_cell}
use Rattle.second_sharing.proofs.ranking.claim.Goals as goal

-- a budget is a small number
small : (k : ℕ) → get_or budgets k 0 < 2 ^ 16
unfolding all
small k = ltb-true _ _ (entry_or (λ x. ltb x (2 ^ 16)) 0 budgets refl refl k)

budget_of_class : (k b : ℕ) → ltb k 5 ≡ true → b ≡ get_or budgets k b → b ≡ get_or budgets k 0
budget_of_class k b h e = e ∙ get_or_default budgets k b 0 (ltb-true k 5 h)

module _ (l m : List ℕ) (p : ℕ) where
  holds : closed_cell l p ≡ true → get_or l (104 + p) 0 ≡ claim_cell l m p
  unfolding claim_cell
  holds e = simp e

  forces : closed_cell l p ≡ false → get_or l (8 + p) 0 ≡ 1 → 154 ≡ claim_cell l m p
  unfolding claim_cell
  forces e f = simp (e, eq-eqb (get_or l (8 + p) 0) 1 f)

  classes : closed_cell l p ≡ false → (get_or l (8 + p) 0 ≡ 1 → ⊥) → get_or budgets (get_or m (152 + p) 0) 0 ≡ claim_cell l m p
  unfolding claim_cell
  classes e f = simp (e, ne_eqb (get_or l (8 + p) 0) 1 f)

pub returns-then-is_closed : goal.returns-then-is_closed
returns-then-is_closed c = (holds _ _ _ (sym c.is_closed.ensures ∙ c.if-is_closed.true), omega arith)

pub returns-then-before-place-eq1 : goal.returns-then-before-place-eq1
returns-then-before-place-eq1 c = (forces _ _ _ (sym c.is_closed.ensures ∙ c.if-is_closed.false) c.if-before-place-eq1.true, omega arith)

pub returns-in-Some : goal.returns-in-Some
returns-in-Some c =
    let k = get_or c.args.after.now (152 + c.args.p) 0 in
    let e : c.in-Some.budget.now ≡ get_or budgets k 0 = budget_of_class k _ (sym c.in-Some.ensures.lookup.0) c.in-Some.ensures.lookup.1 in
    (e ∙ classes _ _ _ (sym c.is_closed.ensures ∙ c.if-is_closed.false) c.if-before-place-eq1.false, omega (arith, small k))

pub returns-in-None : goal.returns-in-None
returns-in-None c =
    (sym (get_or-eq_default budgets 0 {n = get_or c.args.after.now (152 + c.args.p) 0} (ltb-false _ 5 (sym c.in-None.ensures.lookup.0))) ∙ classes _ _ _ (sym c.is_closed.ensures ∙ c.if-is_closed.false) c.if-before-place-eq1.false, omega arith)
