-- 13 for another length, 2 for a count that no board has, and then the cold cells. Assumes nothing.
use Rattle.std.proofs.Common.{◌≡◌, ◌∙◌, ◌||◌, true, false, arith, eqb, ltb}
use borrow.Author.Tests.{eq-eqb, ne_eqb}
use Rattle.std.proofs.lemmas.Bool.Decides.{nat_tests}
use Rattle.table.specs.Parts.{tells, refuse}
use Rattle.cells.specs.Cells.{table_of}
use Rattle.cells.proofs.LentLaws.{cold_refused, cold_done}
use Rattle.replies.specs.Calls.{cold_table, cold_start}
use Rattle.replies.specs.OnCells.{start_on}
use Rattle.calls.proofs.cold_start.Goals as goal

pub returns-in_default : goal.returns-in_default
unfolding start_on cold_start
returns-in_default c =
    let l = c.args.cells.now in
    let n = c.args.ports in
    let e : start_on l n ≡ refuse 13 (table_of l) = simp (ne_eqb _ _ c.in_default.ensures.cases) in
    let told = cold_refused (start_on l n) (table_of l) l 13 e in
    record { value = told.0; cells_after = told.1 }

pub returns-then-not-contains : goal.returns-then-not-contains
unfolding start_on cold_start
returns-then-not-contains c =
    let l = c.args.cells.now in
    let n = c.args.ports in
    let h : (eqb n 0 || ltb 48 n) ≡ true = grind (arith, nat_tests) in
    let e : start_on l n ≡ refuse 2 (cold_table 0) = simp (eq-eqb _ _ c.in-Some.ensures.cases.long, h) in
    let told = cold_refused (start_on l n) (cold_table 0) l 2 e in
    record { value = told.0; cells_after = c.in-Some.ensures.cases.same ∙ told.1 }

pub returns : goal.returns
unfolding start_on cold_start
returns c =
    let l = c.args.cells.now in
    let n = c.args.ports in
    let h : (eqb n 0 || ltb 48 n) ≡ false = grind (arith, nat_tests) in
    let e : start_on l n ≡ tells tt (cold_table n) = simp (eq-eqb _ _ c.in-Some.ensures.cases.long, h) in
    let told = cold_done (start_on l n) (cold_table n) l _ tt e c.fill.ensures in
    record { value = told.0; cells_after = told.1 }
