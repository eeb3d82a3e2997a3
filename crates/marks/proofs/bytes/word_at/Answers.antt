-- `word_at` is its two bytes, and 0 past the last. Assumes nothing.
use Rattle.std.proofs.Common.{◌+◌, arith, rules}
use lib.ListN.{get_or-eq_default}
use Rattle.lists.specs.Bytes.{word_at}
use Rattle.marks.proofs.bytes.word_at.Goals as goal

pub returns-then-bytes-at : goal.returns-then-bytes-at
unfolding word_at
returns-then-bytes-at c =
    let b = c.args.bytes.now in
    let at = c.args.at in
    (omega (arith, get_or-eq_default b 0 {n = at} (omega arith), get_or-eq_default b 0 {n = at + 1} (omega arith)), omega arith)

pub returns : goal.returns
unfolding word_at
returns c = search rules
