-- What is proved of specs/Load.
-- Assumes nothing.
use Prim.Native.Nat.{ℕ, ◌+◌, ◌*◌, ◌<◌}
use mathlib.Core.Path.{◌≡◌}
use mathlib.Core.Bool.{true}
use mathlib.Core.List.{List}
use lib.Dec.{eqb}
use lib.ListN.{length}
use borrow.Author.Tests.{eqb-true}
use Rattle.lists.specs.Bytes.{word_at}
use Rattle.sizes.specs.Sizes.{most_ports}
use Rattle.image.specs.Image.{image_long, image_port}
use Rattle.lists.proofs.Every.{every_at}
use Rattle.lists.proofs.Tests.{and_left, and_right}
use Rattle.image.specs.Load.{port_reads, reads}

pub reads_long : (bytes : List ℕ) → reads bytes ≡ true → length bytes ≡ image_long
unfolding reads
reads_long bytes e = eqb-true (length bytes) image_long (and_left (eqb (length bytes) image_long) _ e)

pub reads_port : (bytes : List ℕ) → reads bytes ≡ true → (p : ℕ) → p < most_ports → port_reads bytes (6 + image_port * p) ≡ true
unfolding reads
reads_port bytes e = every_at most_ports (λ p. port_reads bytes (6 + image_port * p)) (and_right (eqb (word_at bytes 2) 0) _ (and_right (eqb (length bytes) image_long) _ e))
