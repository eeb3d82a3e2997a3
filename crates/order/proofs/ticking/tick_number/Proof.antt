-- `tick_number`: 13, and then 1, 4, 3. Assumes nothing.
use mathlib.Core.Path.{◌≡◌, sym, ◌∙◌}
use mathlib.Core.Bool.{false}
use Prim.Native.Nat.{ℕ}
use borrow.Author.Tests.{eq-eqb, ne_eqb, lt-ltb, le-ltb}
use lib.ListN.{drop}
use Rattle.cells.specs.Cells.{table_of}
use Rattle.ill.specs.Ill.{ill_cells}
use Rattle.interface.specs.Statement1C.{first_number, tick_list}
use Rattle.passes.specs.Tick.{flags_reserved, tick_refusals}
use Rattle.order.proofs.Order.{ill_first, well_first, well_cells_of}
use borrow.Author.Rules.{rules}
use native.Mathlib.Omega.{arith}
use Rattle.order.proofs.ticking.tick_number.Statement.{statement}
use Rattle.order.proofs.ticking.tick_number.Tie as tie

-- the number that is due, and the first number of what is left of the list
abbrev due : tie.Start → ℕ
due s = first_number (tick_list s.args.cells.now s.args.block.now s.args.figure)

abbrev left : ℕ → tie.Start → ℕ
left n s = first_number (drop n (tick_refusals (table_of s.args.cells.now) s.args.block.now s.args.figure))

fine : (c : tie.Else-ill_made) → ill_cells c.args.cells.now ≡ false
fine c = sym c.ill_made.ensures ∙ c.if-ill_made.false

-- what was asked so far does not hold
past1 : (c : tie.Else-ill_made) → due c.before.before.before.before ≡ left 1 c.before.before.before.before
past1 c = let s = c in well_first s.args.cells.now (drop 1 (tick_refusals (table_of s.args.cells.now) s.args.block.now s.args.figure)) (fine c)

past2 : (c : tie.Else-block-ports) → due c.before.before.before.before.before.before ≡ left 2 c.before.before.before.before.before.before
unfolding table_of flags_reserved
past2 c = past1 c.before.before ∙ simp (eq-eqb _ _ c.if-block-ports.false)

past3 : (c : tie.Else-figure-gt60000) → due c.before.before.before.before.before.before.before ≡ left 3 c.before.before.before.before.before.before.before
unfolding table_of flags_reserved
past3 c = past2 c.before ∙ simp (le-ltb _ _ c.if-figure-gt60000.false)

pub tick_number_spec : {M : Type 1} → statement M
unfolding table_of flags_reserved
tick_number_spec =
    tie.close
    (tie.spec
    (λ c κs. search rules)
    (λ c. ill_first c.args.cells.now (drop 1 (tick_refusals (table_of c.args.cells.now) c.args.block.now c.args.figure)) (sym c.ill_made.ensures ∙ c.if-ill_made.true))
    (λ c. let w = well_cells_of _ (fine c.before) in omega arith)
    (λ c. omega (arith, c.shared_slice_known-3-1.given 0))
    (λ c. let w = well_cells_of _ (fine c.before) in omega arith)
    (λ c. sym (past1 c.before.before ∙ simp (ne_eqb _ _ c.if-block-ports.true)))
    (λ c. sym (past2 c.before ∙ simp (lt-ltb _ _ c.if-figure-gt60000.true)))
    (λ c κs. search rules)
    (λ c. sym (past3 c.before.before ∙ simp (sym c.bad_flags.ensures ∙ c.if-bad_flags.true)))
    (λ c. sym (past3 c.before.before ∙ simp (sym c.bad_flags.ensures ∙ c.if-bad_flags.false))))
