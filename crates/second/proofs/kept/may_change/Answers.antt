-- `may_change` is the head's figure, and otherwise the fields. Assumes nothing.
use borrow.Author.Tests.{lt-ltb, le-ltb}
use Rattle.second.specs.Untouched.{may_change}
use Rattle.second.proofs.kept.may_change.Goals as goal

pub returns-then-k-lt8 : goal.returns-then-k-lt8
unfolding may_change
returns-then-k-lt8 c = simp (lt-ltb _ _ c.if-k-lt8.true)

pub returns : goal.returns
unfolding may_change
returns c = simp (le-ltb _ _ c.if-k-lt8.false)
