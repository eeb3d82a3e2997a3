use Rattle.std.proofs.Common.{◌≡◌, sym, ◌∙◌, arith}
use Rattle.lists.proofs.Tests.{not_both_lem}
use Rattle.interface.specs.Statement1C.{first_number}
use Rattle.judge.proofs.Alike.{alike_is, same_is_alike}
use Rattle.writer.specs.Write.{write_refusals}
use Rattle.second_frames.proofs.Due.{due_written}
use Rattle.second_frames.proofs.Held.{write_right}
use Rattle.second_frames.proofs.second_write.Goals as goal

pub returns-in_default-clause-value : goal.returns-in_default-clause-value
returns-in_default-clause-value c =
    let a = c.args in
    let lent = alike_is a.before.now a.room.now (sym (same_is_alike a.before.now a.room.now) ∙ sym c.same.ensures ∙ c.if-not-same.false) in
    absurd (not_both_lem c.written_right.result
    (c.written_right.ensures ∙ write_right a.fields a.room.now _ _ _ lent c.write.ensures.1 (sym c.write.ensures.0 ∙ c.in-Ok.is))
    c.if-written_right.false)

pub returns-in_default-2-clause-value : goal.returns-in_default-2-clause-value
returns-in_default-2-clause-value c =
    let due : first_number (write_refusals c.args.fields c.args.room.now) ≡ 0 = omega arith in
    let written = due_written _ _ due in
    let is = sym c.write.ensures.0 ∙ c.in_default.is in
    absurd (cc)
