use Rattle.std.proofs.Common.{◌≡◌, ℕ, ◌<◌, ◌∙◌, Bool, true, false, cond, List, get_or, refl, arith}
use Rattle.cells.specs.Cells.{port_of}
use Rattle.cells.specs.Writes.{with_port_cells}
use Rattle.settling.specs.Claim.{settling_changes, settled_as}
use Rattle.share.specs.Share.{no_claim}
use Rattle.claims.specs.Claimed.{is_set}
use Rattle.passes.proofs.Moving.{come_none, come_all, come_class, come_settled}
use Rattle.passes.specs.Passes.{admitted_by}
use Rattle.tick.proofs.sharing.admit.Goals as goal

-- an asker has a rank that settling changes where it is kept, and whoever did not ask has none
admitted : (b : Bool) (p : ℕ) (l : List ℕ)
    → cond b (with_port_cells p (settled_as 3 true (port_of l p)).port l) l
    ≡ cond (settling_changes (cond b 3 no_claim) true) (with_port_cells p (settled_as (cond b 3 no_claim) true (port_of l p)).port l) l
unfolding settling_changes
admitted true p l = refl
admitted false p l = refl

pub loop-p-init : goal.loop-p-init
loop-p-init c = come_none _ _ _ c.requires.few c.told-cells c.requires.holds

pub admit_port-requires : goal.admit_port-requires
admit_port-requires c =
    let l = c.loop-p in
    let r = c.requires in
    let t : l.p < c.args.n = omega arith in
    (omega (arith, r.few), omega (arith, come_class c.args.n _ c.args.cells.now r.few c.told-cells l.p l.cells l.invariant t, r.classes l.p t))

pub loop-p-preserved : goal.loop-p-preserved
unfolding admitted_by
loop-p-preserved c =
    let l = c.loop-p in
    let a = c.args in
    let r = cond (is_set (get_or a.lane.now l.p 0)) 3 no_claim in
    c.admit_port.ensures
    ∙ admitted (is_set (get_or a.lane.now l.p 0)) l.p l.cells
    ∙ come_settled a.n (admitted_by a.lane.now a.cells.now) a.cells.now c.requires.few c.told-cells l.p l.cells l.invariant (omega arith) r true refl

pub returns : goal.returns
returns c =
    let e : c.loop-p.p ≡ c.args.n = omega arith in
    come_all _ _ _ c.requires.few c.told-cells _ (rw e at c.loop-p.invariant)
