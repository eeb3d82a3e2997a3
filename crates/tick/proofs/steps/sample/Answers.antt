-- The block has the port's bytes, so it is never cut.
use Rattle.std.proofs.Common.{◌≡◌, ℕ, ◌*◌, ◌/◌, ◌<◌, List, length, Some, lt-ltb}
use Rattle.sizes.specs.Sizes.{sample_bytes}
use Rattle.sample.specs.Sample.{sample_at, sample_of}
use Rattle.tick.proofs.steps.sample.Goals as goal

whole : (block : List ℕ) (port : ℕ) → port < length block / sample_bytes → sample_of block port ≡ Some (sample_at block (sample_bytes * port))
unfolding sample_of
whole block port h = simp (lt-ltb port (length block / sample_bytes) h)

pub unreachable-requires : goal.unreachable-requires
unreachable-requires c = cc (whole c.args.block.now c.args.port c.requires)

pub returns : goal.returns
returns c = cc (whole c.args.block.now c.args.port c.requires)
