-- `tick_right` is its three tests. Assumes nothing.
use Rattle.std.proofs.Common.{Bool, ◌&&◌, eqb, get_or, ap₂}
use Rattle.second.specs.Second.{tick_right}
use Rattle.second.proofs.tick_right.Goals as goal

pub returns : goal.returns
unfolding tick_right
returns c =
    let a = c.args in
    ap₂ (λ (x y : Bool). (x && eqb (get_or a.after.now 1 0) a.figure) && y) c.answer_right.ensures c.rest_kept.ensures
