-- After five limits the class is that past the last of them, and the rule of the table says which.
-- Assumes nothing.
use Rattle.std.proofs.Common.{◌<◌, arith}
use Rattle.class.proofs.Limits.{up_to_limit, past_all}
use Rattle.class.proofs.class_of.Goals as goal

pub returns-then-class-eq5 : goal.returns-then-class-eq5
returns-then-class-eq5 c = past_all _ (rw c.if-class-eq5.true at c.loop-k.invariant.1)

pub returns-else-class-eq5 : goal.returns-else-class-eq5
returns-else-class-eq5 c =
    let l = c.loop-k in
    let h : l.class < 5 = omega (arith, l.invariant.0) in
    up_to_limit l.class _ h l.invariant.1 (l.invariant.2 (omega arith))
