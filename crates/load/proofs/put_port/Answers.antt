-- A state that reads is its own code, and so is a byte of latches. Assumes nothing.
use Rattle.std.proofs.Common.{◌∙◌, ◌+◌, ◌<◌, get_or, arith}
use Rattle.cells.proofs.CodeLaws.{latches_again}
use Rattle.cells.specs.Writes.{writes, with_port_cells, with_count_cells}
use Rattle.image.specs.Load.{port_in}
use Rattle.load.proofs.Restored.{state_code}
use Rattle.load.proofs.put_port.Goals as goal

pub returns : goal.returns
unfolding writes with_port_cells with_count_cells port_in
returns c =
    let bytes = c.args.bytes.now in
    let at = c.args.at in
    let latch : get_or bytes (at + 6) 0 < 256 = omega (arith, c.type_inv.bytes (at + 6)) in
    c.put_counts.ensures
    ∙ simp (c.word_at.ensures, c.word_at-2.ensures, state_code bytes at c.requires.at_value, latches_again (get_or bytes (at + 6) 0) latch)
