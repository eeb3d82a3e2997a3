use Rattle.std.proofs.Common.{◌∙◌, sym}
use Rattle.claims.proofs.Claimed.{no_cells, no_lane, too_many, wants_none, wanted_in_lem}
use Rattle.claims.proofs.wanted.Goals as goal

pub returns-in_default : goal.returns-in_default
returns-in_default c = sym (wants_none _ _ _ (no_cells _ _ _ c.in_default.ensures.cases))

pub returns-in_default-as_array : goal.returns-in_default-as_array
returns-in_default-as_array c = sym (wants_none _ _ _ (no_lane _ _ _ c.in_default-as_array.ensures.cases))

pub returns-then-n-gt-PORTS : goal.returns-then-n-gt-PORTS
returns-then-n-gt-PORTS c = sym (wants_none _ _ _ (too_many _ _ _ c.if-n-gt-PORTS.true))

pub returns : goal.returns
returns c =
    let cells = c.in-Some.ensures.cases in
    let lane = c.in-Some-as_array.ensures.cases in
    simp (cells.same, lane.same) at c.sum_wanted.ensures.0 ∙ sym (wanted_in_lem _ _ _ c.if-n-gt-PORTS.false cells.long lane.long)
