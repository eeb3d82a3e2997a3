-- The tests that led to each answer, in the ladder's order. Assumes nothing.
use Rattle.std.proofs.Common.{◌≡◌, refl, sym, ◌∙◌, ap, true, false, ◌||◌, List, ℕ, ◌+◌, eqb, ltb, get_or, set, Result, Ok, arith}
use Rattle.std.proofs.lemmas.Bool.Decides.{nat_tests}
use Rattle.sizes.specs.Refused.{refused}
use Rattle.sizes.specs.Sizes.{most_value}
use Rattle.sizes.specs.declared.refusals.Refusal.{Refusal}
use Rattle.power.specs.declared.Power.{Power}
use Rattle.table.specs.declared.form.Table.{Table}
use Rattle.table.specs.Parts.{refuse}
use Rattle.cells.specs.Cells.{table_of, cells_with}
use Rattle.cells.specs.Lent.{cells_told}
use Rattle.cells.proofs.LentLaws.{told_refused, told_done}
use Rattle.replies.specs.Calls.{level_of, over_class, granting, over_supply}
use Rattle.replies.specs.Rest.{AtPort, request_rest}
use Rattle.replies.proofs.OnLaws.{class_at, power_on_at_lem, demand_cell}
use Rattle.request.proofs.requested.Goals as goal

-- rung by rung: what was asked before does not hold, and this does
module _ (l : List ℕ) (p v : ℕ) (a : AtPort l p) where
  abbrev Tells : Result Unit Refusal → List ℕ → Type 0
  Tells answer after = (answer ≡ (request_rest l p v).answer) × (after ≡ cells_told (request_rest l p v) l)

  rung : (k : ℕ) → request_rest l p v ≡ refuse k (table_of l) → Tells (refused k) l
  rung k = told_refused (request_rest l p v) (table_of l) l k

  refuse_10 : (eqb v 0 || ltb most_value v) ≡ true → Tells (refused 10) l
  refuse_10 e = rung 10 (simp e)

  module _ (value : (eqb v 0 || ltb most_value v) ≡ false) where
    refuse_5 : eqb (get_or l (8 + p) 0) 6 ≡ false → Tells (refused 5) l
    refuse_5 e = rung 5 (simp (value, power_on_at_lem l p a ∙ e))

    module _ (on : eqb (get_or l (8 + p) 0) 6 ≡ true) where
      refuse_11 : over_class v (get_or l (152 + p) 0) ≡ true → Tells (refused 11) l
      refuse_11 e = rung 11 (simp (value, power_on_at_lem l p a ∙ on, ap (over_class v) (class_at l p a) ∙ e))

      module _ (class : over_class v (get_or l (152 + p) 0) ≡ false) where
        refuse_12 : over_supply (level_of v) p (table_of l) ≡ true → Tells (refused 12) l
        refuse_12 e = rung 12 (simp (value, power_on_at_lem l p a ∙ on, ap (over_class v) (class_at l p a) ∙ class, e))

        accept : over_supply (level_of v) p (table_of l) ≡ false → (d : Power) → d ≡ level_of v → Tells (Ok tt) (set l (104 + p) d.0)
        accept e d level =
            told_done (request_rest l p v) (granting (level_of v) p (table_of l)) l (set l (104 + p) d.0) tt tt
            (simp (value, power_on_at_lem l p a ∙ on, ap (over_class v) (class_at l p a) ∙ class, e)) refl
            (demand_cell l a.well p a.below d ∙ ap (λ (x : Power). cells_with (granting x p (table_of l)) l) level)

-- the supply is asked of the level that was worked out
supply : {d e : Power} (p : ℕ) (t : Table) → d ≡ e → over_supply e p t ≡ over_supply d p t
supply p t h = ap (λ (x : Power). over_supply x p t) (sym h)

pub returns-then-not-contains : goal.returns-then-not-contains
returns-then-not-contains c =
    let e : (eqb c.args.value 0 || ltb most_value c.args.value) ≡ true = grind (arith, nat_tests) in
    let t = refuse_10 _ _ c.args.value c.requires e in
    record { value = t.0; cells_after = t.1 }

pub returns-then-not-on : goal.returns-then-not-on
returns-then-not-on c =
    let e : (eqb c.args.value 0 || ltb most_value c.args.value) ≡ false = grind (arith, nat_tests) in
    let on : eqb (get_or c.args.cells.now (8 + c.args.p) 0) 6 ≡ false = grind (arith, nat_tests) in
    let t = refuse_5 _ _ c.args.value c.requires e on in
    record { value = t.0; cells_after = t.1 }

pub returns-then-over_class : goal.returns-then-over_class
returns-then-over_class c =
    let e : (eqb c.args.value 0 || ltb most_value c.args.value) ≡ false = grind (arith, nat_tests) in
    let on : eqb (get_or c.args.cells.now (8 + c.args.p) 0) 6 ≡ true = grind (arith, nat_tests) in
    let t = refuse_11 _ _ c.args.value c.requires e on (sym c.over_class.ensures ∙ c.if-over_class.true) in
    record { value = t.0; cells_after = t.1 }

pub returns-then-too_much : goal.returns-then-too_much
returns-then-too_much c =
    let e : (eqb c.args.value 0 || ltb most_value c.args.value) ≡ false = grind (arith, nat_tests) in
    let on : eqb (get_or c.args.cells.now (8 + c.args.p) 0) 6 ≡ true = grind (arith, nat_tests) in
    let level = c.level_of-level in
    let t = refuse_12 _ _ c.args.value c.requires e on (sym c.over_class.ensures ∙ c.if-over_class.false) (supply c.args.p (table_of c.args.cells.now) level.ensures ∙ sym c.too_much.ensures ∙ c.if-too_much.true) in
    record { value = t.0; cells_after = t.1 }

pub returns : goal.returns
returns c =
    let e : (eqb c.args.value 0 || ltb most_value c.args.value) ≡ false = grind (arith, nat_tests) in
    let on : eqb (get_or c.args.cells.now (8 + c.args.p) 0) 6 ≡ true = grind (arith, nat_tests) in
    let level = c.level_of-level in
    let t = accept _ _ c.args.value c.requires e on (sym c.over_class.ensures ∙ c.if-over_class.false) (supply c.args.p (table_of c.args.cells.now) level.ensures ∙ sym c.too_much.ensures ∙ c.if-too_much.false) level.result level.ensures in
    record { value = t.0; cells_after = t.1 }
