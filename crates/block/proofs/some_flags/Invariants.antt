-- The first k flags are tested and laid.
-- Assumes nothing.
use Rattle.std.proofs.Common.{◌≡◌}
use Rattle.block.specs.Flags.{some_fine, some_laid}
use Rattle.block.proofs.some_flags.Given as goal

abbrev pub invariant-loop-k : goal.invariant-loop-k
invariant-loop-k l = record {
  clean : l.clean ≡ some_fine l.block l.from l.k;
  laid : l.lane ≡ some_laid l.block l.from l.k l.fn.lane;
}
