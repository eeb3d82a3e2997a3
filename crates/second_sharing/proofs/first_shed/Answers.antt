-- `first_shed` is the lowest place of those that are shed. Assumes nothing.
use Rattle.std.proofs.Common.{◌≡◌, ◌+◌, min, refl, sym, ◌∙◌, ap, arith}
use Rattle.second_sharing.specs.Shared.{place_cell, first_shed}
use Rattle.second_sharing.proofs.Shared.{first_next, lesser}
use Rattle.second_sharing.proofs.first_shed.Goals as goal
use Rattle.second_sharing.proofs.first_shed.Goals.{then-is_denied, else-is_denied}

pub loop-p-init : goal.loop-p-init
unfolding first_shed
loop-p-init c = (refl, omega arith, omega arith)

pub loop-p-preserved : goal.loop-p-preserved
loop-p-preserved c =
    let k = c.loop-p in
    let l = c.args.before.now in
    let m = c.args.after.now in
    elim c.if-is_denied.branch [
      | then-is_denied w ↦
          let e : first_shed l m (k.p + 1) ≡ min (first_shed l m k.p) (place_cell l k.p) = first_next l m k.p ∙ simp (sym c.is_denied.ensures ∙ w.if-is_denied.true) in
          let q : w.min-first.result ≡ min k.first w.place.result = w.min-first.ensures ∙ lesser k.first w.place.result in
          (omega arith, omega arith, omega arith)
      | else-is_denied w ↦
          let e : first_shed l m (k.p + 1) ≡ min (first_shed l m k.p) 384 = first_next l m k.p ∙ simp (sym c.is_denied.ensures ∙ w.if-is_denied.false) in
          (omega arith, omega arith, omega arith)
    ]

pub returns : goal.returns
returns c =
    let k = c.loop-p in
    let e : k.p ≡ 48 = omega arith in
    (k.invariant.0 ∙ ap (first_shed c.args.before.now c.args.after.now) e, k.invariant.2)
