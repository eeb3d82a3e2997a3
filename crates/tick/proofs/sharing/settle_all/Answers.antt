use Rattle.std.proofs.Common.{◌≡◌, ◌<◌, ◌∙◌, false, get_or, refl, arith}
use Rattle.share.specs.Given.{rank_of}
use Rattle.passes.proofs.Moving.{come_none, come_all, come_class, come_settled}
use Rattle.passes.specs.Passes.{settled_by}
use Rattle.tick.proofs.sharing.settle_all.Goals as goal

pub loop-p-init : goal.loop-p-init
loop-p-init c = come_none _ _ _ c.requires.few c.told-cells c.requires.holds

pub settle-requires : goal.settle-requires
settle-requires c =
    let l = c.loop-p in
    let r = c.requires in
    let t : l.p < c.args.n = omega arith in
    (omega (arith, r.few), omega (arith, come_class c.args.n _ c.args.cells.now r.few c.told-cells l.p l.cells l.invariant t, r.classes l.p t))

pub loop-p-preserved : goal.loop-p-preserved
unfolding settled_by rank_of
loop-p-preserved c =
    let l = c.loop-p in
    let a = c.args in
    c.settle.ensures
    ∙ come_settled a.n (settled_by a.claims.now a.kept.now a.cells.now) a.cells.now c.requires.few c.told-cells l.p l.cells l.invariant (omega arith) (rank_of a.claims.now l.p) (get_or a.kept.now l.p false) refl

pub returns : goal.returns
returns c =
    let e : c.loop-p.p ≡ c.args.n = omega arith in
    come_all _ _ _ c.requires.few c.told-cells _ (rw e at c.loop-p.invariant)
