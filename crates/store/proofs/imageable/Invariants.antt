-- Every port below p can be saved.
use Rattle.std.proofs.Common.{◌≡◌, true}
use Rattle.lists.specs.Every.{every}
use Rattle.image.specs.Image.{port_saves}
use Rattle.store.proofs.imageable.Given as goal

abbrev pub invariant-loop-p : goal.invariant-loop-p
invariant-loop-p l = every l.p (port_saves l.cells) ≡ true
