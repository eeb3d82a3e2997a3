-- `number_of` is `number_in`.
use Rattle.std.proofs.Common.{◌≡◌, ◌∙◌, refl, sym, ap₂, get_or, length, arith}
use Rattle.std.specs.Prelude.{◌&&◌, ◌<◌, ◌≢◌}
use borrow.Author.Tests.{le-ltb, eqb-true, eqb-false}
use Rattle.lists.specs.Every.{every}
use Rattle.lists.proofs.Every.{every_next}
use Rattle.parts.specs.Decimal.{is_digit, is_number, number_in}
use Rattle.parts.proofs.Decimal.{more_is, read_none, read_more, read_bad, read_all}
use Rattle.parts.proofs.number_of.Goals as goal

pub returns-then-is_empty : goal.returns-then-is_empty
unfolding number_in is_number
returns-then-is_empty c =
    let w = c.args.word.now in
    let e : length w ≡ 0 = eqb-true (length w) 0 (sym c.is_empty.ensures ∙ c.if-is_empty.true) in
    simp (le-ltb 0 (length w) (omega arith))

pub loop-b-init : goal.loop-b-init
unfolding every
loop-b-init c = (omega arith, refl, read_none _)

pub returns-in_err-n : goal.returns-in_err-n
returns-in_err-n c =
    let l = c.loop-b in
    c.from_residual.ensures
    ∙ sym (read_bad c.args.word.now l.b-index l.n (omega arith) l.invariant.2 (sym c.more.ensures ∙ c.in_err-n.was))

pub loop-b-preserved : goal.loop-b-preserved
loop-b-preserved c =
    let w = c.args.word.now in
    let l = c.loop-b in
    let m = more_is l.n (get_or w l.b-index 0) c.in_ok-n.n (sym c.more.ensures ∙ c.in_ok-n.was) in
    let h : l.b-index < length w = omega arith in (
      m.2,
      every_next l.b-index (λ p. is_digit (get_or w p 0)) ∙ ap₂ ◌&&◌ l.invariant.1 m.0,
      rw m.1 (read_more w l.b-index l.n h l.invariant.2),
    )

pub returns : goal.returns
returns c =
    let w = c.args.word.now in
    let l = c.loop-b in
    let n : length w ≢ 0 = eqb-false (length w) 0 (sym c.is_empty.ensures ∙ c.if-is_empty.false) in
    sym (read_all w l.b-index l.n (omega arith) (omega arith) l.invariant.0 l.invariant.1 l.invariant.2)
