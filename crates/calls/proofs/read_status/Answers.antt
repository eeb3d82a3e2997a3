-- 13 and 2 are `port_named`'s; then the port's word, and its latches are cleared. Assumes nothing.
use Rattle.std.proofs.Common.{◌≡◌, sym, ◌∙◌, [], ℕ, ◌+◌, List, set, Err, rules, arith}
use Rattle.status.specs.Status.{status_word}
use Rattle.port.specs.States.{condition}
use Rattle.table.specs.Parts.{port_at, with_port, tells}
use Rattle.cells.specs.Cells.{table_of}
use Rattle.cells.proofs.LentLaws.{told_done}
use Rattle.replies.specs.Calls.{unlatched, status_at, read_status}
use Rattle.replies.specs.OnCells.{status_on}
use Rattle.replies.specs.Rest.{AtPort}
use Rattle.replies.proofs.OnLaws.{Named, at_port, named, call_refuses, call_goes, latch_cell}
use Rattle.calls.proofs.read_status.Goals as goal

pub returns-in_err-place : goal.returns-in_err-place
unfolding status_on read_status
returns-in_err-place c =
    let l = c.args.cells.now in
    let n = c.args.port in
    let t = call_refuses l n [] (status_at n (table_of l)) _ (sym c.port_named.ensures ∙ c.in_err-place.was) in
    let e : c.from_residual.result ≡ Err c.in_err-place.field-0.0 = search rules in
    record { value = e ∙ t.0; cells_after = t.1 }

-- the port that is read is the one that was named
module _ (l : List ℕ) (n p : ℕ) (k : Named l n p) where
  there : AtPort l p
  there = at_port l p k.well (rw k.same k.below)

  goes : status_on l n ≡ tells (status_word (port_at (table_of l) p).latches (port_at (table_of l) p).class (condition (port_at (table_of l) p).state)) (with_port p (unlatched (port_at (table_of l) p)) (table_of l))
  unfolding status_on read_status status_at
  goes = rw k.same (call_goes l n [] (status_at n (table_of l)) k.well k.below)

pub word_of-word-requires : goal.word_of-word-requires
word_of-word-requires c = there c.args.cells.now c.args.port c.in_ok-place.place (named _ _ _ (sym c.port_named.ensures ∙ c.in_ok-place.was))

pub overflow_add-cells : goal.overflow_add-cells
overflow_add-cells c =
    let a = there c.args.cells.now c.args.port c.in_ok-place.place (named _ _ _ (sym c.port_named.ensures ∙ c.in_ok-place.was)) in
    omega (arith, a.below, a.few)

pub offset_bounds-cells-place : goal.offset_bounds-cells-place
offset_bounds-cells-place c =
    let a = there c.args.cells.now c.args.port c.in_ok-place.place (named _ _ _ (sym c.port_named.ensures ∙ c.in_ok-place.was)) in
    omega (arith, a.below, a.few)

pub bounds-cells-place : goal.bounds-cells-place
bounds-cells-place c =
    let a = there c.args.cells.now c.args.port c.in_ok-place.place (named _ _ _ (sym c.port_named.ensures ∙ c.in_ok-place.was)) in
    omega (arith, a.below, a.few, a.long)

pub returns : goal.returns
returns c =
    let l = c.args.cells.now in
    let n = c.args.port in
    let p = c.in_ok-place.place in
    let k = named l n p (sym c.port_named.ensures ∙ c.in_ok-place.was) in
    let after = with_port p (unlatched (port_at (table_of l) p)) (table_of l) in
    let told = told_done (status_on l n) after l (set l (200 + p) 0) c.word_of-word.result _ (goes l n p k) c.word_of-word.ensures (latch_cell l k.well p (rw k.same k.below)) in
    record { value = told.0; cells_after = told.1 }
