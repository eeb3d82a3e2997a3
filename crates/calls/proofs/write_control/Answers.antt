-- 13 and 2 are `port_named`'s, and the rest is `controlled`'s. Assumes nothing.
use Rattle.std.proofs.Common.{◌≡◌, sym, ◌∙◌, ap, ℕ, List, drop, Result, Err, rules}
use Rattle.sizes.specs.declared.refusals.Refusal.{Refusal}
use Rattle.table.specs.Parts.{Told, port_at, with_port, done}
use Rattle.cells.specs.Cells.{table_of}
use Rattle.cells.specs.Lent.{cells_told}
use Rattle.replies.specs.Calls.{with_control, control_refusals, write_control}
use Rattle.replies.specs.OnCells.{control_on}
use Rattle.replies.specs.Rest.{AtPort, control_rest}
use Rattle.replies.proofs.OnLaws.{Named, at_port, named, call_refuses, call_goes}
use Rattle.calls.proofs.write_control.Goals as goal

pub returns-in_err-p : goal.returns-in_err-p
unfolding control_on write_control
returns-in_err-p c =
    let l = c.args.cells.now in
    let n = c.args.port in
    let w = c.args.word in
    let t = call_refuses l n (drop 2 (control_refusals (table_of l) n w)) (done (with_port n (with_control w (port_at (table_of l) n)) (table_of l))) _ (sym c.port_named.ensures ∙ c.in_err-p.was) in
    let e : c.from_residual.result ≡ Err c.in_err-p.field-0.0 = search rules in
    record { value = e ∙ t.0; cells_after = t.1 }

-- the port that is told is the one that was named
module _ (l : List ℕ) (n p w : ℕ) (k : Named l n p) where
  there : AtPort l p
  there = at_port l p k.well (rw k.same k.below)

  goes : control_rest l p w ≡ control_on l n w
  unfolding control_on write_control
  goes = rw k.same (sym (call_goes l n (drop 2 (control_refusals (table_of l) n w)) (done (with_port n (with_control w (port_at (table_of l) n)) (table_of l))) k.well k.below))

pub controlled-requires : goal.controlled-requires
controlled-requires c = there c.args.cells.now c.args.port c.in_ok-p.p c.args.word (named _ _ _ (sym c.port_named.ensures ∙ c.in_ok-p.was))

pub returns : goal.returns
returns c =
    let l = c.args.cells.now in
    let g = goes l c.args.port c.in_ok-p.p c.args.word (named _ _ _ (sym c.port_named.ensures ∙ c.in_ok-p.was)) in
    record {
      value = c.controlled.ensures.value ∙ ap (λ (x : Told (Result Unit Refusal)). x.answer) g;
      cells_after = c.controlled.ensures.cells_after ∙ ap (λ (x : Told (Result Unit Refusal)). cells_told x l) g;
    }
