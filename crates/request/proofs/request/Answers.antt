-- 13 and 2 are `port_named`'s, and the rest is `requested`'s. Assumes nothing.
use Rattle.std.proofs.Common.{◌≡◌, sym, ◌∙◌, ap, ℕ, List, drop, Result, Err, rules}
use Rattle.sizes.specs.declared.refusals.Refusal.{Refusal}
use Rattle.table.specs.Parts.{Told, done}
use Rattle.cells.specs.Cells.{table_of}
use Rattle.cells.specs.Lent.{cells_told}
use Rattle.replies.specs.Calls.{level_of, granting, request_refusals, request}
use Rattle.replies.specs.OnCells.{request_on}
use Rattle.replies.specs.Rest.{AtPort, request_rest}
use Rattle.replies.proofs.OnLaws.{Named, at_port, named, call_refuses, call_goes}
use Rattle.request.proofs.request.Goals as goal

pub returns-in_err-p : goal.returns-in_err-p
unfolding request_on request
returns-in_err-p c =
    let l = c.args.cells.now in
    let n = c.args.port in
    let v = c.args.value in
    let t = call_refuses l n (drop 2 (request_refusals (table_of l) n v)) (done (granting (level_of v) n (table_of l))) _ (sym c.port_named.ensures ∙ c.in_err-p.was) in
    let e : c.from_residual.result ≡ Err c.in_err-p.field-0.0 = search rules in
    record { value = e ∙ t.0; cells_after = t.1 }

-- the port that is told is the one that was named
module _ (l : List ℕ) (n p v : ℕ) (k : Named l n p) where
  there : AtPort l p
  there = at_port l p k.well (rw k.same k.below)

  goes : request_rest l p v ≡ request_on l n v
  unfolding request_on request
  goes = rw k.same (sym (call_goes l n (drop 2 (request_refusals (table_of l) n v)) (done (granting (level_of v) n (table_of l))) k.well k.below))

pub requested-requires : goal.requested-requires
requested-requires c = there c.args.cells.now c.args.port c.in_ok-p.p c.args.value (named _ _ _ (sym c.port_named.ensures ∙ c.in_ok-p.was))

pub returns : goal.returns
returns c =
    let l = c.args.cells.now in
    let g = goes l c.args.port c.in_ok-p.p c.args.value (named _ _ _ (sym c.port_named.ensures ∙ c.in_ok-p.was)) in
    record {
      value = c.requested.ensures.value ∙ ap (λ (x : Told (Result Unit Refusal)). x.answer) g;
      cells_after = c.requested.ensures.cells_after ∙ ap (λ (x : Told (Result Unit Refusal)). cells_told x l) g;
    }
