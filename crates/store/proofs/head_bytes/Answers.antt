-- The two words of the head. Assumes nothing.
use Rattle.std.proofs.Common.{refl}
use Rattle.cells.specs.Cells.{table_of}
use Rattle.image.specs.Image.{head_bytes}
use Rattle.store.proofs.Saved.{bytes}
use Rattle.store.proofs.head_bytes.Goals as goal

pub returns : goal.returns
unfolding head_bytes table_of
returns c =
    let count = bytes _ _ (c.fits-cells 0) c.to_be_bytes-count.ensures in
    let supply = bytes _ _ (c.fits-cells 1) c.to_be_bytes-supply.ensures in
    rw (count, supply) refl
