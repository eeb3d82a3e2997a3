-- The two tests that led to each answer. A word that is taken is below 64, so it fits 16 bits. Assumes nothing.
use Rattle.std.proofs.Common.{◌≡◌, refl, sym, ◌∙◌, true, false, ◌||◌, ℕ, ◌+◌, List, Bool, get_or, set, arith}
use mathlib.Core.Path.{ap₂}
use Rattle.lists.proofs.Tests.{not_or}
use Rattle.control.specs.Control.{refused}
use Rattle.control.proofs.Laws.{taken_small}
use Rattle.port.specs.States.{in_disabled}
use Rattle.port.specs.declared.form.State.{State}
use Rattle.table.specs.Parts.{port_at, with_port, tells, refuse}
use Rattle.cells.specs.Cells.{table_of}
use Rattle.cells.specs.Codes.{state_of}
use Rattle.cells.proofs.LentLaws.{told_refused, told_done}
use Rattle.replies.specs.Calls.{same_alternative, with_control}
use Rattle.replies.specs.Rest.{AtPort, control_rest}
use Rattle.replies.proofs.OnLaws.{state_at, control_at, control_cell}
use Rattle.calls.proofs.controlled.Goals as goal

-- what the code asks of the cells, asked of the port
may : (l : List ℕ) (p w : ℕ) → AtPort l p → (b : Bool)
    → (same_alternative (get_or l (56 + p) 0) w || in_disabled (state_of (get_or l (8 + p) 0))) ≡ b → (same_alternative (port_at (table_of l) p).control w || in_disabled (port_at (table_of l) p).state) ≡ b
may l p w a b e = ap₂ (λ (k : ℕ) (x : State). same_alternative k w || in_disabled x) (control_at l p a) (state_at l p a) ∙ e

pub returns-then-refused : goal.returns-then-refused
returns-then-refused c =
    let l = c.args.cells.now in
    let p = c.args.p in
    let w = c.args.word in
    let e : control_rest l p w ≡ refuse 3 (table_of l) = simp (sym c.refused.ensures ∙ c.if-refused.true) in
    let told = told_refused (control_rest l p w) (table_of l) l 3 e in
    record { value = told.0; cells_after = told.1 }

pub overflow_cast-control : goal.overflow_cast-control
overflow_cast-control c = omega (arith, taken_small c.args.word (sym c.refused.ensures ∙ c.if-refused.false))

pub returns-then-not-may_write : goal.returns-then-not-may_write
returns-then-not-may_write c =
    let l = c.args.cells.now in
    let p = c.args.p in
    let w = c.args.word in
    let r : refused w ≡ false = sym c.refused.ensures ∙ c.if-refused.false in
    let m = may l p w c.requires false (sym c.may_write.ensures ∙ c.if-not-may_write.true) in
    let e : control_rest l p w ≡ refuse 5 (table_of l) = simp (r, ← not_or, m) in
    let told = told_refused (control_rest l p w) (table_of l) l 5 e in
    record { value = told.0; cells_after = told.1 }

pub returns : goal.returns
returns c =
    let l = c.args.cells.now in
    let p = c.args.p in
    let w = c.args.word in
    let r : refused w ≡ false = sym c.refused.ensures ∙ c.if-refused.false in
    let m = may l p w c.requires true (sym c.may_write.ensures ∙ c.if-not-may_write.false) in
    let after = with_port p (with_control w (port_at (table_of l) p)) (table_of l) in
    let e : control_rest l p w ≡ tells tt after = simp (r, ← not_or, m) in
    let told = told_done (control_rest l p w) after l (set l (56 + p) w) tt tt e refl (control_cell l c.requires.well p c.requires.below w) in
    record { value = told.0; cells_after = told.1 }
