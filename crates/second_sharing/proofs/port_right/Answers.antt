-- `port_right` is the tests of one port. Assumes nothing.
use Rattle.second_sharing.specs.Shared.{port_right}
use Rattle.second_sharing.proofs.port_right.Goals as goal

pub returns : goal.returns
unfolding port_right
returns c = simp (c.is_denied.ensures, c.is_closed.ensures, c.left-shed.ensures, c.entered.ensures, c.claim.ensures.0, c.place.ensures.0)
