use Rattle.std.proofs.Common.{sym, ◌∙◌}
use Rattle.quick.proofs.SweepLaws.{swept_left_is}
use Rattle.quick.proofs.sweep.Goals as goal

pub returns-clause-value : goal.returns-clause-value
returns-clause-value c =
    let cells = c.in-Some.ensures.cases in
    let lane = c.in-Some-as_mut_array.ensures.cases in
    simp (cells.same, lane.same) at c.sweep_all.ensures.value ∙ sym (swept_left_is _ _ cells.long lane.long (simp cells.same at c.if-cells-gt-PORTS_16.false))
