use Rattle.std.proofs.Common.{sym, ◌∙◌, arith}
use Rattle.walk.proofs.Walked.{whole}
use Rattle.search.proofs.FromHere.{allowed, ends, breaks, goes_on}
use Rattle.search.proofs.search.Goals as goal

pub returns-in-End : goal.returns-in-End
returns-in-End c =
    let pdu = c.args.pdu.now in
    c.answer.ensures ∙ sym (allowed pdu (omega arith) ∙ c.loop-size.invariant ∙ ends pdu _ _ (sym c.tlv_at.ensures ∙ c.in-End.is))

pub returns-in-Cut : goal.returns-in-Cut
returns-in-Cut c =
    let pdu = c.args.pdu.now in
    sym (allowed pdu (omega arith) ∙ c.loop-size.invariant ∙ breaks pdu _ c.loop-size.seen (sym c.tlv_at.ensures ∙ c.in-Cut.is))

pub overflow_add-at : goal.overflow_add-at
overflow_add-at c = let tlv = whole _ _ _ (sym c.tlv_at.ensures ∙ c.in-Tlv.is) in omega (arith, tlv.fits)

pub loop-size-smaller : goal.loop-size-smaller
loop-size-smaller c = let tlv = whole _ _ _ (sym c.tlv_at.ensures ∙ c.in-Tlv.is) in omega (arith, tlv.fits, tlv.header)

pub loop-size-preserved : goal.loop-size-preserved
loop-size-preserved c = c.loop-size.invariant ∙ goes_on _ _ _ _ _ (sym c.tlv_at.ensures ∙ c.in-Tlv.is) c.noted-seen.ensures
