-- `count` is the number of the line's words.
use Rattle.std.proofs.Common.{◌≡◌, length, ap, arith}
use Rattle.parts.proofs.Words.{more_words, same_words, at_end}
use Rattle.parts.proofs.count.Goals as goal
use Rattle.parts.proofs.count.Goals.{then-b-eq32, else-b-eq32}

pub loop-b-init : goal.loop-b-init
loop-b-init c = (omega arith, omega arith)

pub loop-b-preserved : goal.loop-b-preserved
loop-b-preserved c =
    let l = c.args.line.now in
    let i = c.loop-b.b-index in
    elim c.if-b-eq32.branch [
      | then-b-eq32 w ↦ (omega arith, omega (arith, more_words l i (omega arith) w.if-b-eq32.true))
      | else-b-eq32 w ↦ (omega arith, omega (arith, same_words l i (omega arith) w.if-b-eq32.false))
    ]

pub returns : goal.returns
returns c =
    let l = c.args.line.now in
    let e : c.loop-b.b-index ≡ length l = omega arith in
    omega (arith, ap length (at_end l c.loop-b.b-index e))
