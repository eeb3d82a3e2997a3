-- One place more is the definition's next.
-- Assumes nothing.
use Rattle.std.proofs.Common.{ℕ, ◌+◌, add-one}
use mathlib.Core.Path.{refl, sym, ◌∙◌, ap, ap₂}
use mathlib.Core.Bool.{◌&&◌}
use lib.Dec.{ltb}
use lib.ListN.{set}
use Rattle.lists.specs.Every.{every}
use Rattle.lists.proofs.Every.{every_next}
use Rattle.block.specs.Flags.{low, some_fine, some_laid}
use Rattle.block.proofs.some_flags.Goals as goal

pub loop-k-init : goal.loop-k-init
unfolding some_fine some_laid every
loop-k-init c = record { clean = refl; laid = refl }

pub loop-k-preserved : goal.loop-k-preserved
unfolding some_fine some_laid
loop-k-preserved c =
    let l = c.loop-k in
    let block = c.args.block.now in
    record {
      clean = ap₂ ◌&&◌ l.invariant.clean (ap (λ (w : ℕ). ltb w 64) c.flags_at-word.ensures) ∙ sym (every_next l.k (λ k. low block (c.args.from + k)));
      laid = rw add-one (ap₂ (λ w m. set m (c.args.from + l.k) w) c.flags_at-word.ensures l.invariant.laid);
    }
