-- `all_hex` sees that every byte is a hex digit.
use Rattle.std.proofs.Common.{◌≡◌, true, false}
use Rattle.std.proofs.lemmas.Iterator.{cases_from_all, YieldsList-from_slice}
use Rattle.std.specs.Char.{is_ascii_hexdigit}
use Rattle.parts.proofs.Hex.{all_hex}
use Rattle.parts.proofs.all_hex.Goals as goal
use borrow.Author.Rules.{rules}
use borrow.Author.Tests.{tests}

pub returns : goal.returns
returns c =
    let w = c.args.word.now in
    all_hex w c.all.result
    (cases_from_all _ _ _ (λ b. is_ascii_hexdigit b ≡ true) (λ b. is_ascii_hexdigit b ≡ false) c.all.ensures.ran (YieldsList-from_slice w cc) (λ x q k. search (rules, tests)) (λ x q k. search (rules, tests)))
