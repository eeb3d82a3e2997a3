-- The first refusal, or the supply; and where nothing is refused the lane has the flags.
use Rattle.std.proofs.Common.{◌≡◌, ◌&&◌, ◌∙◌, Bool, true, false, cond, leb, ltb, refl, List, ℕ, sym, ap, eq-eqb, ne_eqb, le-ltb, lt-ltb, leb-true, leb-false, Ok, Err, rules}
use Rattle.sizes.specs.Sizes.{most_supply}
use Rattle.lists.specs.Every.{every}
use Rattle.power.specs.Power.{supply_of, tenths}
use Rattle.power.specs.declared.Power.{Power}
use Rattle.sizes.specs.Refused.{refusal, refused}
use Rattle.sizes.specs.declared.refusals.Refusal.{Refusal}
use Rattle.cells.specs.Cells.{count_cell}
use Rattle.well.specs.Judged.{head_cells, well_cells, port_fine}
use Rattle.well.proofs.Laws.{well_cells_lem, head_count}
use Rattle.block.specs.Flags.{flags_fine}
use Rattle.block.proofs.Flags.{fit_clean, fit_laid}
use Rattle.passes.specs.Passes.{checked_on}
use Rattle.tick.proofs.checked.Goals as goal

-- cells without a well-made head are not well-made
no_head : (l : List ℕ) → head_cells l ≡ false → well_cells l ≡ false
no_head l e = well_cells_lem l ∙ ap (λ (b : Bool). b && every (count_cell l) (port_fine l)) e

pub returns-then-not-well_head-clause-value : goal.returns-then-not-well_head-clause-value
unfolding checked_on
returns-then-not-well_head-clause-value c = simp (no_head c.args.cells.now (sym c.well_head.ensures ∙ c.if-not-well_head.true))

pub returns-then-not-well_made-clause-value : goal.returns-then-not-well_made-clause-value
unfolding checked_on
returns-then-not-well_made-clause-value c = let e : well_cells c.args.cells.now ≡ false = sym c.well_made.ensures ∙ c.if-not-well_made.true in simp e

pub returns-then-block-n-clause-value : goal.returns-then-block-n-clause-value
unfolding checked_on
returns-then-block-n-clause-value c =
    let e : well_cells c.args.cells.now ≡ true = sym c.well_made.ensures ∙ c.if-not-well_made.false in
    simp (e, ne_eqb _ _ c.if-block-n.true)

-- what a figure that is no supply, and one that is, says of the test
no_supply : (f : ℕ) (r : Refusal) → Err r ≡ supply_of f → (ltb most_supply f ≡ true) × (r ≡ refusal 4)
unfolding supply_of
no_supply f r e = go (leb f most_supply) refl e
  where
    go : (b : Bool) → leb f most_supply ≡ b → Err r ≡ cond b (Ok (tenths f)) (refused 4) → (ltb most_supply f ≡ true) × (r ≡ refusal 4)
    go true q z = absurd (cc)
    go false q z = (lt-ltb most_supply f (leb-false f most_supply q), cc)

a_supply : (f : ℕ) (s : Power) → Ok s ≡ supply_of f → (ltb most_supply f ≡ false) × (s ≡ tenths f)
unfolding supply_of
a_supply f s e = go (leb f most_supply) refl e
  where
    go : (b : Bool) → leb f most_supply ≡ b → Ok s ≡ cond b (Ok (tenths f)) (refused 4) → (ltb most_supply f ≡ false) × (s ≡ tenths f)
    go true q z = (le-ltb most_supply f (leb-true f most_supply q), cc)
    go false q z = absurd (cc)

pub returns-in_err-supply-clause-value : goal.returns-in_err-supply-clause-value
unfolding checked_on
returns-in_err-supply-clause-value c =
    let e : well_cells c.args.cells.now ≡ true = sym c.well_made.ensures ∙ c.if-not-well_made.false in
    let r : c.from_residual.result ≡ Err c.in_err-supply.field-0.0 = search rules in
    let n = no_supply c.args.figure _ c.in_err-supply.ensures in
    simp (e, eq-eqb _ _ c.if-block-n.false, n.0) (r ∙ ap Err n.1)

pub returns-then-clean : goal.returns-then-clean
unfolding checked_on
returns-then-clean c =
    let a = c.args in
    let e : well_cells a.cells.now ≡ true = sym c.well_made.ensures ∙ c.if-not-well_made.false in
    let few = head_count a.cells.now (sym c.well_head.ensures ∙ c.if-not-well_head.false) in
    let n = a_supply a.figure _ c.in_ok-supply.ensures in
    let f : flags_fine (count_cell a.cells.now) a.block.now ≡ true = sym (fit_clean _ _ a.lane.now few c.if-block-n.false c.told-lane) ∙ sym c.flags_into-clean.ensures.value ∙ c.if-clean.true in
    record {
      value = simp (e, eq-eqb _ _ c.if-block-n.false, n.0, f) (ap Ok n.1);
      lane_after = c.flags_into-clean.ensures.lane_after ∙ fit_laid _ _ a.lane.now few c.if-block-n.false c.told-lane;
    }

pub returns-else-clean-clause-value : goal.returns-else-clean-clause-value
unfolding checked_on
returns-else-clean-clause-value c =
    let a = c.args in
    let e : well_cells a.cells.now ≡ true = sym c.well_made.ensures ∙ c.if-not-well_made.false in
    let few = head_count a.cells.now (sym c.well_head.ensures ∙ c.if-not-well_head.false) in
    let n = a_supply a.figure _ c.in_ok-supply.ensures in
    let f : flags_fine (count_cell a.cells.now) a.block.now ≡ false = sym (fit_clean _ _ a.lane.now few c.if-block-n.false c.told-lane) ∙ sym c.flags_into-clean.ensures.value ∙ c.if-clean.false in
    simp (e, eq-eqb _ _ c.if-block-n.false, n.0, f)
