-- `start` is where a word begins.
use Rattle.std.proofs.Common.{◌≡◌, ◌∙◌, ◌+◌, sym, ap, refl, length, drop, arith}
use Rattle.parts.specs.Words.{word_at}
use Rattle.parts.proofs.Words.{seek_space, seek_other, past_end}
use Rattle.parts.proofs.start.Goals as goal
use Rattle.parts.proofs.start.Goals.{then-b-eq32, else-b-eq32}

pub loop-i-preserved : goal.loop-i-preserved
loop-i-preserved c =
    let l = c.args.line.now in
    let at = c.loop-i in
    let z : at.left ≡ 0 → ⊥ = omega arith in
    elim c.if-b-eq32.branch [
      | then-b-eq32 w ↦ ap (word_at (drop (at.i + 1) l)) w.left-is ∙ sym (seek_space l at.i (omega arith) at.left z w.if-b-eq32.true) ∙ at.invariant
      | else-b-eq32 w ↦ ap (word_at (drop (at.i + 1) l)) w.left-is ∙ sym (seek_other l at.i (omega arith) at.left z w.if-b-eq32.false) ∙ at.invariant
    ]

pub returns : goal.returns
returns c =
    let l = c.args.line.now in
    let at = c.loop-i in
    let e : at.i ≡ length l = omega arith in
    (omega arith, past_end l (length l) 0 refl ∙ sym (past_end l at.i at.left e) ∙ at.invariant)
