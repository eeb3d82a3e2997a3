use Rattle.std.proofs.Common.{◌≡◌, sym, ◌∙◌, arith}
use Rattle.lists.proofs.Tests.{not_both_lem}
use Rattle.interface.specs.Statement1C.{first_number}
use Rattle.reader.specs.Read.{read_refusals}
use Rattle.second_frames.proofs.Due.{due_read}
use Rattle.second_frames.proofs.Held.{read_written, read_right}
use Rattle.second_frames.proofs.second_read.Goals as goal

pub returns-in_default : goal.returns-in_default
returns-in_default c =
    let due : first_number (read_refusals c.args.bytes.now) ≡ 0 = omega arith in
    let read = due_read _ due in
    let is = sym c.read.ensures ∙ c.in_default.is in
    absurd (cc)

pub returns-in_default-write : goal.returns-in_default-write
returns-in_default-write c =
    let sent = sym c.zero_sent.ensures ∙ c.if-not-zero_sent.false in
    absurd (not_both_lem c.rewritten_right.result
    (c.rewritten_right.ensures
    ∙ read_right c.args.bytes.now (λ k. omega (arith, c.type_inv.bytes k)) sent _ (sym c.read.ensures ∙ c.in-Ok.is) _ (omega arith) _ _ c.write.ensures.1 (sym c.write.ensures.0 ∙ c.in-Ok-write.is))
    c.if-rewritten_right.false)

pub returns-in_default-write-2 : goal.returns-in_default-write-2
returns-in_default-write-2 c =
    let sent = sym c.zero_sent.ensures ∙ c.if-not-zero_sent.false in
    absurd (read_written c.args.bytes.now (λ k. omega (arith, c.type_inv.bytes k)) sent _ (sym c.read.ensures ∙ c.in-Ok.is) _ (omega arith) _ (sym c.write.ensures.0 ∙ c.in_default-write.is))
