-- Above the present demand, and the sum with the change does not fit. Assumes nothing.
use Rattle.std.proofs.Common.{◌≡◌, ◌∙◌, ap, true, false, not, ◌+◌, get_or, rules}
use Rattle.power.specs.Power.{tenths, over, fits}
use Rattle.power.specs.declared.Sum.{Sum}
use Rattle.table.specs.Parts.{port_at}
use Rattle.cells.specs.Cells.{supply_cell, table_of}
use Rattle.replies.specs.Calls.{over_supply}
use Rattle.replies.proofs.OnLaws.{demand_at}
use Rattle.request.proofs.too_much.Goals as goal

pub returns-then-lt : goal.returns-then-lt
unfolding over_supply over table_of
returns-then-lt c =
    let l = c.args.cells.now in
    let p = c.args.p in
    let d = c.args.demand in
    let above : over d (tenths (get_or l (104 + p) 0)) ≡ c.lt.result = search rules in
    let o : over d (port_at (table_of l) p).demand ≡ true = ap (over d) (demand_at l p c.requires) ∙ above ∙ c.if-lt.true in
    simp o (ap not (c.fits.ensures ∙ ap (λ (x : Sum). fits x (tenths (supply_cell l))) c.closed_sum.ensures))

pub returns-else-lt : goal.returns-else-lt
unfolding over_supply over
returns-else-lt c =
    let l = c.args.cells.now in
    let p = c.args.p in
    let d = c.args.demand in
    let above : over d (tenths (get_or l (104 + p) 0)) ≡ c.lt.result = search rules in
    let o : over d (port_at (table_of l) p).demand ≡ false = ap (over d) (demand_at l p c.requires) ∙ above ∙ c.if-lt.false in
    simp o c.if-lt.false
