-- `ill_made` is `ill_cells`: other cells than 728 are no table. Assumes nothing.
use Rattle.std.proofs.Common.{◌≡◌, ℕ, false, List, length, sym, ◌∙◌, ap}
use borrow.Author.Tests.{ne_eqb}
use Rattle.well.specs.Judged.{head_cells}
use Rattle.ill.specs.Ill.{ill_cells}
use Rattle.ill.proofs.Ill.{ill_parts}
use Rattle.ill.proofs.ill_made.Goals as goal

short : (l : List ℕ) → (length l ≡ 728 → ⊥) → head_cells l ≡ false
unfolding head_cells
short l n = simp (ne_eqb _ _ n)

pub returns-in-None : goal.returns-in-None
returns-in-None c =
    let l = c.args.cells.now in
    sym (ill_parts l ∙ simp (short l c.in-None.ensures.cases))

pub returns-in-Some : goal.returns-in-Some
returns-in-Some c = c.ill_table.ensures ∙ ap ill_cells c.in-Some.ensures.cases.same
