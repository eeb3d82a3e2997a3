-- `run` makes the calls of the records, one after the other. Assumes nothing.
use Rattle.std.proofs.Common.{refl, arith, rules}
use Rattle.history.proofs.Running.{decoded_cold, decoded_more, decoded_all}
use Rattle.history.proofs.run.Goals as goal

pub loop-at-init : goal.loop-at-init
loop-at-init c = (search rules, decoded_cold _ _ _ _ c.ipaqsuni_cold_start.ensures.cells_after refl)

pub loop-at-preserved : goal.loop-at-preserved
loop-at-preserved c =
    let l = c.loop-at in (
      omega (arith, c.end_of-end.ensures),
      decoded_more _ _ l.at _ _ l.invariant.1 _ _ _ c.loop-at-test.true c.number_at-port.ensures c.number_at-number.ensures (omega (arith, c.end_of-end.ensures, c.word_at.ensures.0)) _ _ c.next-reached.ensures.cells_value c.next-reached.ensures.shown_value,
    )

pub returns : goal.returns
returns c =
    let d = decoded_all _ _ c.loop-at.at _ _ c.loop-at.invariant.1 c.loop-at-test.false in
    record { cells_value = d.0; shown_value = d.1 }
