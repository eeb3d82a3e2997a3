-- `word` is `word_at`: from its start to the first space.
use Rattle.std.proofs.Common.{◌≡◌, ◌∙◌, ◌-◌, sym, ap, take, drop, length, arith}
use Rattle.std.proofs.Math.ListN.{length-drop}
use Rattle.std.proofs.Math.Seq.{take_all}
use Rattle.std.specs.Prelude.{ℕ, List}
use Rattle.parts.specs.Words.{word_at}
use Rattle.parts.proofs.Words.{first_word}
use Rattle.parts.proofs.word.Goals as goal

pub returns : goal.returns
returns c =
    let l = c.args.line.now in
    let from = c.start.result in
    let n = length l - from in
    let rest = take n (drop from l) in
    let e : rest ≡ drop from l = take_all n (drop from l) (omega (arith, length-drop from l)) in
    ap (λ (k : ℕ). take k rest) c.end.ensures ∙ sym (first_word rest) ∙ ap (λ (r : List ℕ). word_at r 0) e ∙ c.start.ensures.1
