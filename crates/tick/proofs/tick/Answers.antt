-- A refusal leaves the cells, and what is not refused moves.
use Rattle.std.proofs.Common.{◌≡◌, ℕ, List, length, Result, Ok, Err, sym, ◌∙◌, ap, ne_eqb, rules}
use Rattle.sizes.specs.Refused.{refused}
use Rattle.sizes.specs.declared.refusals.Refusal.{Refusal}
use Rattle.table.specs.Parts.{Told, refuse}
use Rattle.table.specs.declared.form.Closed.{Closed}
use Rattle.boards.specs.Masks.{answered}
use Rattle.cells.specs.Cells.{cells_long, is_table, table_of}
use Rattle.cells.specs.Lent.{cells_told}
use Rattle.passes.proofs.Judging.{told, judged, ready}
use Rattle.passes.specs.OnCells.{tick_on}
use Rattle.passes.specs.Passes.{moved_answer, moved_cells}
use Rattle.tick.proofs.tick.Goals as goal

-- so many cells are no table
no_table : (l block : List ℕ) (figure : ℕ) → (length l ≡ cells_long → ⊥) → tick_on l block figure ≡ record { table = table_of l; answer = refused 13 }
unfolding tick_on is_table refuse
no_table l block figure h = simp (ne_eqb _ _ h)

pub returns-in_default-clause-value : goal.returns-in_default-clause-value
returns-in_default-clause-value c = ap (λ (x : Told (Result Closed Refusal)). x.answer) (sym (no_table _ c.args.block.now c.args.figure c.in_default.ensures.cases))

pub returns-in_default-clause-cells_after : goal.returns-in_default-clause-cells_after
unfolding cells_told
returns-in_default-clause-cells_after c = ap (λ (x : Told (Result Closed Refusal)). cells_told x c.args.cells.now) (sym (no_table _ c.args.block.now c.args.figure c.in_default.ensures.cases))

pub returns-in_err-supply-clause-value : goal.returns-in_err-supply-clause-value
returns-in_err-supply-clause-value c =
    let l = c.args.cells.now in
    let b = c.args.block.now in
    let f = c.args.figure in
    let r : c.from_residual.result ≡ Err c.in_err-supply.field-0.0 = search rules in
    let e : tick_on l b f ≡ told l b f (Err c.in_err-supply.field-0.0) = judged l b f ∙ ap (told l b f) (sym (simp c.in-Some.ensures.cases.same at c.in_err-supply.ensures.value)) in
    r ∙ ap (λ (x : Told (Result Closed Refusal)). x.answer) (sym e)

pub returns-in_err-supply-clause-cells_after : goal.returns-in_err-supply-clause-cells_after
unfolding cells_told
returns-in_err-supply-clause-cells_after c =
    let l = c.args.cells.now in
    let b = c.args.block.now in
    let f = c.args.figure in
    let e : tick_on l b f ≡ told l b f (Err c.in_err-supply.field-0.0) = judged l b f ∙ ap (told l b f) (sym (simp c.in-Some.ensures.cases.same at c.in_err-supply.ensures.value)) in
    c.in-Some.ensures.cases.same ∙ ap (λ (x : Told (Result Closed Refusal)). cells_told x l) (sym e)

pub moved-requires : goal.moved-requires
moved-requires c =
    let b = c.args.block.now in
    ready c.in-Some.cells.now b c.args.figure _ c.in_ok-supply.supply (sym c.in_ok-supply.ensures.value) c.in_ok-supply.ensures.lane_after

pub returns : goal.returns
unfolding cells_told moved_answer moved_cells answered
returns c =
    let l = c.args.cells.now in
    let b = c.args.block.now in
    let f = c.args.figure in
    let same = c.in-Some.ensures.cases.same in
    let e : tick_on l b f ≡ told l b f (Ok c.in_ok-supply.supply) = judged l b f ∙ ap (told l b f) (sym (simp same at c.in_ok-supply.ensures.value)) in
    record {
      value = ap Ok (rw same at c.moved.ensures.value) ∙ ap (λ (x : Told (Result Closed Refusal)). x.answer) (sym e);
      cells_after = (rw same at c.moved.ensures.cells_after) ∙ ap (λ (x : Told (Result Closed Refusal)). cells_told x l) (sym e);
    }
