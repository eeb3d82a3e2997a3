-- `note` makes every mark anew. Assumes nothing.
use Rattle.std.proofs.Common.{◌≡◌, ◌∙◌, ap, arith}
use native.Mathlib.Nat.{le_refl}
use Rattle.lists.proofs.Places.{filled_none, filled_more, filled_all}
use Rattle.marks.specs.Mark.{noted_mark}
use Rattle.history.specs.Marks.{noted_all}
use Rattle.history.proofs.shown.note.Goals as goal

pub loop-p-init : goal.loop-p-init
loop-p-init c = filled_none _ _ _

pub loop-p-preserved : goal.loop-p-preserved
loop-p-preserved c =
    let l = c.loop-p in
    filled_more 0 _ _ l.p l.shown c.noted.result l.invariant (omega arith) (c.noted.ensures ∙ ap (noted_mark _ _ _ l.p) (l.invariant.left l.p (le_refl l.p)))

pub returns : goal.returns
unfolding noted_all
returns c =
    let l = c.loop-p in
    let e : l.p ≡ 48 = omega arith in
    filled_all 0 _ c.args.shown.now 48 l.shown c.told-shown (rw e at l.invariant)
