-- `rest_kept` looks at every cell. Assumes nothing.
use Rattle.std.proofs.Common.{◌≡◌, refl, sym, ◌∙◌, ap, ℕ, Bool, eqb, ◌&&◌, ◌||◌, get_or, arith}
use mathlib.Core.Path.{ap₂}
use Rattle.lists.specs.Every.{every}
use Rattle.lists.proofs.Every.{every_next}
use Rattle.second.specs.Untouched.{may_change, rest_kept}
use Rattle.second.proofs.kept.rest_kept.Goals as goal

pub loop-k-init : goal.loop-k-init
unfolding every
loop-k-init c = refl

pub loop-k-preserved : goal.loop-k-preserved
loop-k-preserved c =
    let l = c.args.before.now in
    let m = c.args.after.now in
    ap₂ (λ (b d : Bool). b && (d || eqb (get_or m c.loop-k.k 0) (get_or l c.loop-k.k 0))) c.loop-k.invariant c.may_change.ensures
    ∙ sym (every_next c.loop-k.k (λ (k : ℕ). may_change k (get_or l 0 0) || eqb (get_or m k 0) (get_or l k 0)))

pub returns : goal.returns
unfolding rest_kept
returns c =
    let l = c.args.before.now in
    let m = c.args.after.now in
    let e : c.loop-k.k ≡ 728 = omega arith in
    c.loop-k.invariant ∙ ap (λ (n : ℕ). every n (λ (k : ℕ). may_change k (get_or l 0 0) || eqb (get_or m k 0) (get_or l k 0))) e
