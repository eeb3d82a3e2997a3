-- `control_number`: 13, and then 2, 3, 5. Assumes nothing.
use mathlib.Core.Path.{◌≡◌, sym, ◌∙◌}
use mathlib.Core.Bool.{false}
use Prim.Native.Nat.{ℕ, ◌+◌}
use borrow.Author.Tests.{le-leb, lt-leb}
use lib.ListN.{drop}
use Rattle.cells.specs.Cells.{table_of}
use Rattle.ill.specs.Ill.{ill_cells}
use Rattle.interface.specs.Statement1C.{first_number, control_list}
use Rattle.replies.specs.Calls.{control_refusals}
use Rattle.replies.specs.Rest.{AtPort}
use Rattle.replies.proofs.OnLaws.{at_port}
use Rattle.order.proofs.Order.{ill_first, well_first, well_of, well_cells_of, alternative_at}
use borrow.Author.Rules.{rules}
use native.Mathlib.Omega.{arith}
use Rattle.order.proofs.control_write.control_number.Statement.{statement}
use Rattle.order.proofs.control_write.control_number.Tie as tie

-- the number that is due, and the first number of what is left of the list
abbrev due : tie.Start → ℕ
due s = first_number (control_list s.args.cells.now s.args.port s.args.word)

abbrev left : ℕ → tie.Start → ℕ
left n s = first_number (drop n (control_refusals (table_of s.args.cells.now) s.args.port s.args.word))

fine : (c : tie.Else-ill_made) → ill_cells c.args.cells.now ≡ false
fine c = sym c.ill_made.ensures ∙ c.if-ill_made.false

-- what was asked so far does not hold
past1 : (c : tie.Else-ill_made) → due c.before.before.before ≡ left 1 c.before.before.before
past1 c = let s = c in well_first s.args.cells.now (drop 1 (control_refusals (table_of s.args.cells.now) s.args.port s.args.word)) (fine c)

at : (c : tie.Else-cells-port) → AtPort c.args.cells.now c.args.port
at c = at_port _ _ (well_of _ (fine c.before.before)) c.if-cells-port.false

past2 : (c : tie.Else-cells-port) → due c.before.before.before.before.before ≡ left 2 c.before.before.before.before.before
unfolding table_of
past2 c = past1 c.before.before ∙ simp (lt-leb _ _ c.if-cells-port.false)

past3 : (c : tie.Else-bad_word) → due c.before.before.before.before.before.before.before ≡ left 3 c.before.before.before.before.before.before.before
unfolding table_of
past3 c = past2 c.before.before ∙ simp (sym c.bad_word.ensures ∙ c.if-bad_word.false)

pub control_number_spec : {M : Type 1} → statement M
unfolding table_of
control_number_spec =
    tie.close
    (tie.spec
    (λ c κs. search rules)
    (λ c. ill_first c.args.cells.now (drop 1 (control_refusals (table_of c.args.cells.now) c.args.port c.args.word)) (sym c.ill_made.ensures ∙ c.if-ill_made.true))
    (λ c. let w = well_cells_of _ (fine c.before) in omega arith)
    (λ c. omega (arith, c.shared_slice_known-2-1.given 0))
    (λ c. sym (past1 c.before.before ∙ simp (le-leb _ _ c.if-cells-port.true)))
    (λ c κs. search rules)
    (λ c. sym (past2 c.before.before ∙ simp (sym c.bad_word.ensures ∙ c.if-bad_word.true)))
    (λ c. let w = well_cells_of _ (fine c.before.before.before.before) in omega arith)
    (λ c. let w = well_cells_of _ (fine c.before.before.before.before) in omega arith)
    (λ c. let w = well_cells_of _ (fine c.before.before.before.before.before) in omega arith)
    (λ c. omega (arith, c.shared_slice_known-3-1.given (56 + c.args.port)))
    (λ c. let w = well_cells_of _ (fine c.before.before.before.before.before) in omega arith)
    (λ c. let w = well_cells_of _ (fine c.before.before.before.before.before) in omega arith)
    (λ c. let w = well_cells_of _ (fine c.before.before.before.before.before.before) in omega arith)
    (λ c. sym (past3 c.before.before.before ∙ simp (alternative_at _ _ (at c.before.before.before.before.before) c.args.word ∙ c.if-present-word.true)))
    (λ c. sym (past3 c.before.before.before ∙ simp (alternative_at _ _ (at c.before.before.before.before.before) c.args.word ∙ c.if-present-word.false))))
