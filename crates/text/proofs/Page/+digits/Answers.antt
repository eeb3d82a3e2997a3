-- `digits` puts the digits of the number: those of its tenth, if it has more than one, and the last one.
use Rattle.std.proofs.Common.{◌≡◌, ◌∙◌, [], ◌∷◌, ◌+◌, ◌/◌, ◌%◌, ap, arith}
use Rattle.std.specs.Prelude.{ℕ}
use Rattle.parts.specs.Decimal.{decimal}
use Rattle.parts.proofs.Decimal.{decimal_one, decimal_more}
use Rattle.text.proofs.Room.{put_more}
use Rattle.text.proofs.Page.+digits.Goals as goal
use Rattle.text.proofs.Page.+digits.Goals.{then-n-ge10, else-n-ge10}

pub returns-clause-put : goal.returns-clause-put
returns-clause-put t c =
    let n = c.args.n in
    elim c.if-n-ge10.branch [
      | then-n-ge10 w ↦ rw (decimal_more n w.if-n-ge10.true (omega arith)) (put_more _ _ (decimal (n / 10)) ((48 + n % 10) ∷ []) _ _ _ _ w.digits.ensures.put (rw w.self-is at c.put.ensures.put))
      | else-n-ge10 w ↦
          let e : decimal n ≡ (48 + n % 10) ∷ [] = decimal_one n (omega arith) ∙ ap (λ (k : ℕ). (48 + k) ∷ []) (omega arith) in
          rw e (rw w.self-is at c.put.ensures.put)
    ]
