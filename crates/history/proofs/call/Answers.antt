-- `call` makes the call of its kind. Assumes nothing.
use Rattle.std.proofs.Common.{◌≡◌, ℕ, List, false, sym, ◌∙◌, ap, eqb, arith}
use Rattle.std.proofs.lemmas.Bool.Decides.{nat_tests}
use Rattle.statements.specs.History.{control, status, requested, ticked}
use Rattle.history.specs.Decode.{call_of}
use Rattle.history.specs.Lent.{cells_after, ran_on}
use Rattle.history.proofs.LentLaws.{zero_accepted}
use Rattle.history.specs.declared.TickAnswer.{TickAnswer}
use Rattle.history.proofs.call.Goals as goal

module _ (kind port number : ℕ) (block : List ℕ) where
  is_control : kind ≡ 0 → call_of kind port number block ≡ control port number
  unfolding call_of
  is_control e = rw e

  is_status : kind ≡ 1 → call_of kind port number block ≡ status port
  unfolding call_of
  is_status e = rw e

  is_request : kind ≡ 2 → call_of kind port number block ≡ requested port number
  unfolding call_of
  is_request e = rw e

  is_tick : eqb kind 0 ≡ false → eqb kind 1 ≡ false → eqb kind 2 ≡ false → call_of kind port number block ≡ ticked block number
  unfolding call_of
  is_tick a b d = simp (a, b, d)

pub returns-in-0 : goal.returns-in-0
unfolding cells_after ran_on
returns-in-0 c =
    let e = is_control c.args.kind c.args.port c.args.number c.args.block.now c.in-0.is in
    record { value = ap (ran_on c.args.cells.now) (sym e); cells_after = c.ipaqsuni_write_control.ensures.cells_after ∙ ap (cells_after c.args.cells.now) (sym e) }

pub returns-in-1 : goal.returns-in-1
unfolding cells_after ran_on
returns-in-1 c =
    let e = is_status c.args.kind c.args.port c.args.number c.args.block.now c.in-1.is in
    record { value = ap (ran_on c.args.cells.now) (sym e); cells_after = c.ipaqsuni_read_status.ensures.cells_after ∙ ap (cells_after c.args.cells.now) (sym e) }

pub returns-in-2 : goal.returns-in-2
unfolding cells_after ran_on
returns-in-2 c =
    let e = is_request c.args.kind c.args.port c.args.number c.args.block.now c.in-2.is in
    record { value = ap (ran_on c.args.cells.now) (sym e); cells_after = c.ipaqsuni_request.ensures.cells_after ∙ ap (cells_after c.args.cells.now) (sym e) }

pub returns-in_default : goal.returns-in_default
unfolding cells_after ran_on
returns-in_default c =
    let k = c.args.kind in
    let e = is_tick k c.args.port c.args.number c.args.block.now (grind (arith, nat_tests)) (grind (arith, nat_tests)) (grind (arith, nat_tests)) in
    record {
      value = ap (λ (x : TickAnswer). eqb x.number 0) c.tick.ensures.value ∙ zero_accepted _ _ _ ∙ ap (ran_on c.args.cells.now) (sym e);
      cells_after = c.tick.ensures.cells_after ∙ ap (cells_after c.args.cells.now) (sym e);
    }
