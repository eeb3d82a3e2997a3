use Rattle.std.proofs.Common.{◌∙◌, ap, eq-eqb, ne_eqb}
use mathlib.Core.Bool.{and-false}
use borrow.Author.Tests.{lt-leb}
use Rattle.tally.specs.Tally.{tallied, named, closed_in, sides_in}
use Rattle.tally.proofs.Tally.{side_lane_sided, closed_in_lem, sides_in_lem}
use Rattle.tally.proofs.closed_ports.Goals as goal

pub returns-then-n-gt-PORTS-clause-value : goal.returns-then-n-gt-PORTS-clause-value
unfolding tallied closed_in
returns-then-n-gt-PORTS-clause-value c = simp (eq-eqb _ _ c.in-Some.ensures.cases.long, lt-leb _ _ c.if-n-gt-PORTS.true)

pub returns-then-n-gt-PORTS-clause-lane_after : goal.returns-then-n-gt-PORTS-clause-lane_after
unfolding tallied sides_in
returns-then-n-gt-PORTS-clause-lane_after c = simp (eq-eqb _ _ c.in-Some.ensures.cases.long, lt-leb _ _ c.if-n-gt-PORTS.true)

pub returns-in_default-as_mut_array-clause-value : goal.returns-in_default-as_mut_array-clause-value
unfolding closed_in
returns-in_default-as_mut_array-clause-value c = simp (ne_eqb _ _ c.in_default-as_mut_array.ensures.cases, and-false)

pub returns-in_default-as_mut_array-clause-lane_after : goal.returns-in_default-as_mut_array-clause-lane_after
unfolding sides_in
returns-in_default-as_mut_array-clause-lane_after c = simp (ne_eqb _ _ c.in_default-as_mut_array.ensures.cases, and-false)

pub masks-requires : goal.masks-requires
masks-requires c = rw c.sides.ensures (side_lane_sided _ _)

pub returns-clause-value : goal.returns-clause-value
returns-clause-value c =
    let cells = c.in-Some.ensures.cases in
    let lane = c.in-Some-as_mut_array.ensures.cases in
    simp (closed_in_lem _ _ c.if-n-gt-PORTS.false cells.long _ lane.long) (c.masks.ensures ∙ ap named (rw cells.same at c.sides.ensures))

pub returns-clause-lane_after : goal.returns-clause-lane_after
returns-clause-lane_after c =
    let cells = c.in-Some.ensures.cases in
    let lane = c.in-Some-as_mut_array.ensures.cases in
    simp (sides_in_lem _ _ c.if-n-gt-PORTS.false cells.long _ lane.long) (rw cells.same at c.sides.ensures)
