-- `request_number`: 13, and then 2, 10, 5, 11, 12. Assumes nothing.
use mathlib.Core.Path.{◌≡◌, sym, ◌∙◌, ap}
use mathlib.Core.Bool.{false, ◌&&◌, ◌||◌}
use Prim.Native.Nat.{ℕ, ◌+◌}
use borrow.Author.Tests.{le-leb, lt-leb, eq-eqb, ne_eqb}
use lib.Dec.{ltb}
use lib.ListN.{get_or, drop}
use Rattle.cells.specs.Cells.{table_of}
use Rattle.ill.specs.Ill.{ill_cells}
use Rattle.interface.specs.Statement1C.{first_number, request_list}
use Rattle.power.specs.Power.{tenths}
use Rattle.class.specs.Class.{budgets}
use Rattle.table.specs.Drawn.{closed_sum}
use Rattle.table.specs.Parts.{port_at}
use Rattle.replies.specs.Calls.{level_of, over_class, granting, over_supply, request_refusals}
use Rattle.replies.specs.Rest.{AtPort}
use Rattle.replies.proofs.OnLaws.{at_port, power_on_at_lem}
use Rattle.order.proofs.Order.{ill_first, well_first, well_of, well_cells_of, class_over, supply_over}
use borrow.Author.Rules.{rules}
use native.Mathlib.Omega.{arith}
use Rattle.order.proofs.power_request.request_number.Statement.{statement}
use Rattle.order.proofs.power_request.request_number.Tie as tie

-- the number that is due, and the first number of what is left of the list
abbrev due : tie.Start → ℕ
due s = first_number (request_list s.args.cells.now s.args.port s.args.value)

abbrev left : ℕ → tie.Start → ℕ
left n s = first_number (drop n (request_refusals (table_of s.args.cells.now) s.args.port s.args.value))

fine : (c : tie.Else-ill_made) → ill_cells c.args.cells.now ≡ false
fine c = sym c.ill_made.ensures ∙ c.if-ill_made.false

-- what was asked so far does not hold
past1 : (c : tie.Else-ill_made) → due c.before.before.before ≡ left 1 c.before.before.before
past1 c = let s = c in well_first s.args.cells.now (drop 1 (request_refusals (table_of s.args.cells.now) s.args.port s.args.value)) (fine c)

at : (c : tie.Else-cells-port) → AtPort c.args.cells.now c.args.port
at c = at_port _ _ (well_of _ (fine c.before.before)) c.if-cells-port.false

past2 : (c : tie.Else-cells-port) → due c.before.before.before.before.before ≡ left 2 c.before.before.before.before.before
unfolding table_of
past2 c = past1 c.before.before ∙ simp (lt-leb _ _ c.if-cells-port.false)

past3 : (c : tie.Else-value) → due c.before.before.before.before.before.before ≡ left 3 c.before.before.before.before.before.before
unfolding table_of
past3 c = past2 c.before ∙ simp c.if-value.false

past4 : (c : tie.Else-cells-p-ne6) → due c.before.before.before.before.before.before.before.before ≡ left 4 c.before.before.before.before.before.before.before.before
unfolding table_of
past4 c = past3 c.before.before ∙ simp (power_on_at_lem _ _ (at c.before.before.before) ∙ eq-eqb _ _ c.if-cells-p-ne6.false)

-- the value is past the last level or its level over the class's budget; and over what the supply has left for it
over_class_lem : (c : tie.After-level-asked)
    → over_class c.args.value (port_at (table_of c.args.cells.now) c.args.port).class
    ≡ (ltb 255 c.args.value || ltb (get_or budgets (get_or c.args.cells.now (152 + c.args.port) 0) 0) c.level-asked.result)
over_class_lem c =
    let s = c in
    class_over _ _ (at c.before.before.before.before) s.args.value
    ∙ ap (λ (d : ℕ). ltb 255 s.args.value || ltb (get_or budgets (get_or s.args.cells.now (152 + s.args.port) 0) 0) d) (sym c.level-asked.ensures)

over_supply_lem : (c : tie.After-demands_with)
    → over_supply (level_of c.args.value) c.args.port (table_of c.args.cells.now)
    ≡ (ltb (get_or c.args.cells.now (104 + c.args.port) 0) c.level-asked.result && ltb (get_or c.args.cells.now 1 0) c.demands_with.result)
over_supply_lem c =
    let s = c in
    let l = s.args.cells.now in
    let p = s.args.port in
    let asked = c.level-asked in
    supply_over l p (at c.before.before.before.before.before.before.before.before.before.before.before) (level_of s.args.value)
    ∙ ap (λ (d : ℕ). ltb (get_or l (104 + p) 0) d && ltb (get_or l 1 0) (closed_sum (granting (tenths d) p (table_of l)))) (sym asked.ensures)
    ∙ ap (λ (n : ℕ). ltb (get_or l (104 + p) 0) asked.result && ltb (get_or l 1 0) n) (sym c.demands_with.ensures)

past5 : (c : tie.Else-value-class) → due c.before.before.before.before.before.before.before.before.before.before.before.before.before ≡ left 5 c.before.before.before.before.before.before.before.before.before.before.before.before.before
unfolding table_of
past5 c = past4 c.before.before.before.before.before ∙ simp (over_class_lem c.before.before.before.before ∙ c.if-value-class.false)

pub request_number_spec : {M : Type 1} → statement M
unfolding table_of
request_number_spec =
    tie.close
    (tie.spec
    (λ c κs. search rules)
    (λ c. ill_first c.args.cells.now (drop 1 (request_refusals (table_of c.args.cells.now) c.args.port c.args.value)) (sym c.ill_made.ensures ∙ c.if-ill_made.true))
    (λ c. let w = well_cells_of _ (fine c.before) in omega arith)
    (λ c. omega (arith, c.shared_slice_known-2-1.given 0))
    (λ c. sym (past1 c.before.before ∙ simp (le-leb _ _ c.if-cells-port.true)))
    (λ c. sym (past2 c.before ∙ simp c.if-value.true))
    (λ c. let w = well_cells_of _ (fine c.before.before.before) in omega arith)
    (λ c. let w = well_cells_of _ (fine c.before.before.before) in omega arith)
    (λ c. let w = well_cells_of _ (fine c.before.before.before.before) in omega arith)
    (λ c. sym (past3 c.before.before ∙ simp (power_on_at_lem _ _ (at c.before.before.before) ∙ ne_eqb _ _ c.if-cells-p-ne6.true)))
    (λ c κs. search rules)
    (λ c. let w = well_cells_of _ (fine c.before.before.before.before.before.before) in omega arith)
    (λ c. let w = well_cells_of _ (fine c.before.before.before.before.before.before) in omega arith)
    (λ c. let w = well_cells_of _ (fine c.before.before.before.before.before.before.before) in omega arith)
    (λ c. omega (arith, c.shared_slice_known-4-1.given (152 + c.args.port)))
    (λ c. omega (arith, (at c.before.before.before.before.before.before).class))
    (λ c. omega (arith, (at c.before.before.before.before.before.before).class))
    (λ c. sym (past4 c.before.before.before.before.before ∙ simp (over_class_lem c.before.before.before.before ∙ c.if-value-class.true)))
    (λ c. let w = well_cells_of _ (fine c.before.before.before.before.before.before.before.before.before.before) in omega arith)
    (λ c. let w = well_cells_of _ (fine c.before.before.before.before.before.before.before.before.before.before) in omega arith)
    (λ c. let w = well_cells_of _ (fine c.before.before.before.before.before.before.before.before.before.before.before) in omega arith)
    (λ c. let w = well_cells_of _ (fine c.before.before.before.before.before.before.before.before.before.before.before.before) in omega arith)
    (λ c. omega (arith, c.shared_slice_known-6-1.given 1))
    (λ c κs. at c.before.before.before.before.before.before.before.before.before.before)
    (λ c. sym (past5 c.before.before.before.before ∙ simp (over_supply_lem c.before ∙ c.if-cells-p.true)))
    (λ c. sym (past5 c.before.before.before.before ∙ simp (over_supply_lem c.before ∙ c.if-cells-p.false))))
