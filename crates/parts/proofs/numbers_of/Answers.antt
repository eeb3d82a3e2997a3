-- `numbers_of` is `numbers_in`.
use Rattle.std.proofs.Common.{◌≡◌, ◌∙◌, refl, sym, ap, ap₂, arith}
use Rattle.std.specs.Prelude.{ℕ, ◌&&◌, replicate, Some, None}
use Rattle.lists.specs.Every.{every}
use Rattle.lists.proofs.Every.{every_next}
use Rattle.lists.proofs.Places.{filled_none, filled_more}
use Rattle.parts.specs.Decimal.{is_number, number_in, value}
use Rattle.parts.specs.Numbers.{asked}
use Rattle.parts.proofs.NumbersLaws.{is_number_lem, no_number, one_bad, all_good}
use Rattle.parts.proofs.numbers_of.Goals as goal

pub loop-i-init : goal.loop-i-init
unfolding every
loop-i-init c = (refl, filled_none _ _ _)

pub returns-in_err-n : goal.returns-in_err-n
returns-in_err-n c =
    let a = c.args in
    let l = c.loop-i in
    let e : number_in (asked a.line.now l.i) ≡ None = ap number_in (sym c.word.ensures) ∙ sym c.number_of.ensures ∙ c.in_err-n.was in
    c.from_residual.ensures
    ∙ sym (one_bad a.line.now a.many (omega arith) (sym c.count.ensures ∙ c.if-count-many.false) l.i c.loop-i-test.true (no_number _ e))

pub loop-i-preserved : goal.loop-i-preserved
loop-i-preserved c =
    let l = c.args.line.now in
    let at = c.loop-i in
    let n = c.in_ok-n.field-0 in
    let e : number_in (asked l at.i) ≡ Some n = ap number_in (sym c.word.ensures) ∙ sym c.number_of.ensures ∙ c.in_ok-n.was in
    let m = is_number_lem (asked l at.i) n e in (
      every_next at.i (λ p. is_number (asked l p)) ∙ ap₂ ◌&&◌ at.invariant.0 m.0,
      filled_more 0 (λ p. value (asked l p)) (replicate 9 0) at.i at.n n at.invariant.1 (omega arith) m.1,
    )

pub returns : goal.returns
returns c =
    let a = c.args in
    let l = c.loop-i in
    let k : l.i ≡ a.many = omega arith in
    sym (all_good a.line.now a.many (omega arith) (sym c.count.ensures ∙ c.if-count-many.false)
    (ap (λ (j : ℕ). every j (λ p. is_number (asked a.line.now p))) (sym k) ∙ l.invariant.0)
    l.n
    (rw k at l.invariant.1))
