-- Every port below p reads.
use Rattle.std.proofs.Common.{◌≡◌, true, ◌+◌, ◌*◌}
use Rattle.lists.specs.Every.{every}
use Rattle.image.specs.Image.{image_port}
use Rattle.image.specs.Load.{port_reads}
use Rattle.load.proofs.reads.Given as goal

abbrev pub invariant-loop-p : goal.invariant-loop-p
invariant-loop-p l = every l.p (λ q. port_reads l.bytes (6 + image_port * q)) ≡ true
