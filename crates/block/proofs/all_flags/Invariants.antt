-- The flags below 8 times k stand in the lane, and they are clean so far exactly if each of them is fine.
-- Assumes nothing.
use Rattle.std.proofs.Common.{◌≡◌, ◌*◌}
use Rattle.lists.specs.Every.{every}
use Rattle.lists.specs.Places.{Filled}
use Rattle.block.specs.Flags.{flags_of_port, low}
use Rattle.block.proofs.all_flags.Given as goal

abbrev pub invariant-loop-k : goal.invariant-loop-k
invariant-loop-k l = record {
  clean : l.clean ≡ every (8 * l.k) (low l.block);
  filled : Filled 0 (flags_of_port l.block) l.fn.lane (8 * l.k) l.lane;
}
