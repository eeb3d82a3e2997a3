use Rattle.std.proofs.Common.{◌≡◌, ◌+◌, sym, ◌∙◌, ap, arith}
use mir.Val.{bool_byte}
use Rattle.lists.specs.Bits.{one}
use Rattle.lists.proofs.Bits.{one_small, byte_is}
use Rattle.header.specs.Header.{length_at, size_at, is_power}
use Rattle.search.specs.Search.{search_refusals}
use Rattle.walk.specs.Walk.{step_of}
use Rattle.walk.specs.declared.Step.TheVariants.{End}
use Rattle.walk.proofs.Walked.{past}
use Rattle.interface.specs.Statement1C.{first_number}
use Rattle.order_frames.proofs.Walking.{looks, ends, breaks, goes_on, lone, type_zero, too_long, whole_tlv}
use Rattle.order_frames.proofs.search_number.Goals as goal
use Rattle.order_frames.proofs.search_number.Goals.{else-loop-at-test, then-loop-at-test+else-pdu-at-lt2+then-type_at-eq0}

pub loop-at-init : goal.loop-at-init
loop-at-init c = (omega arith, omega arith, looks c.args.pdu.now (omega arith))

pub returns-then-pdu-at-lt2 : goal.returns-then-pdu-at-lt2
returns-then-pdu-at-lt2 c =
    let at = c.loop-at.at in
    sym (c.loop-at.invariant.2 ∙ breaks c.args.pdu.now at _ (lone c.args.pdu.now at (omega arith) (omega arith)))

pub returns-then-pdu-at : goal.returns-then-pdu-at
returns-then-pdu-at c =
    let at = c.loop-at.at in
    sym (c.loop-at.invariant.2 ∙ breaks c.args.pdu.now at _ (too_long c.args.pdu.now at (omega arith) (omega arith) (λ e. omega arith) (omega arith)))

pub power_at-requires : goal.power_at-requires
unfolding size_at
power_at-requires c = omega arith

pub loop-at-preserved : goal.loop-at-preserved
loop-at-preserved c =
    let pdu = c.args.pdu.now in
    let at = c.loop-at.at in
    let whole = whole_tlv pdu at (omega arith) (omega arith) (λ e. omega arith) (omega arith) in
    let counts : c.from-powers.result ≡ one (is_power pdu at) = c.from-powers.ensures ∙ ap bool_byte c.power_at.ensures ∙ byte_is (is_power pdu at) in (
      omega arith,
      omega (arith, counts, one_small (is_power pdu at)),
      c.loop-at.invariant.2 ∙ goes_on pdu at c.loop-at.powers (2 + length_at pdu at) whole ∙ simp (counts, c.length_at-size.ensures.0),
    )

pub returns : goal.returns
returns c =
    let pdu = c.args.pdu.now in
    let at = c.loop-at.at in
    let answers : step_of pdu at ≡ End → c.counted.result ≡ first_number (search_refusals pdu) = λ e. c.counted.ensures ∙ sym (c.loop-at.invariant.2 ∙ ends pdu at c.loop-at.powers e) in
    elim c.loop-at-test.branch [
      | else-loop-at-test w ↦ answers (past pdu at w.loop-at-test.false)
      | then-loop-at-test+else-pdu-at-lt2+then-type_at-eq0 w ↦ answers (type_zero pdu at w.loop-at-test.true (omega arith) (sym w.type_at.ensures ∙ w.if-type_at-eq0.true))
    ]
