-- What some ports add to those before them: eight of them in each turn, and then what is left of n.
-- Assumes nothing.
use Rattle.std.proofs.Common.{◌≡◌, ℕ, ◌+◌, ◌*◌, ◌/◌, ◌%◌, ◌≤◌, List, length, arith}
use Prim.Native.Nat.{zero, suc}
use mathlib.Core.Path.{refl, sym, ◌∙◌, ap, ap₂}
use mathlib.Core.Bool.{Bool, not, ◌&&◌, and_assoc, and-true}
use native.Mathlib.Nat.{add-zero}
use Rattle.sizes.specs.Sizes.{most_ports}
use Rattle.lists.specs.Bits.{above}
use Rattle.lists.specs.Every.{every}
use Rattle.lists.proofs.Every.{every_next, every_cong}
use Rattle.lists.specs.Places.{Filled}
use Rattle.lists.proofs.Places.{filled_none, filled_more, filled_below}
use Rattle.lists.proofs.Tests.{not_leb}
use Rattle.sample.specs.Sample.{reserved_flags}
use Rattle.block.specs.Flags.{flags_of_port, flags_fine, flag_lane, low, some_fine, some_laid}
use Rattle.block.proofs.all_flags.Goals as goal

fine_is : (n : ℕ) (block : List ℕ) → flags_fine n block ≡ every n (low block)
unfolding flags_fine reserved_flags above
fine_is n block = every_cong n (λ p. not (reserved_flags (flags_of_port block p))) (low block) (λ p h. not_leb 64 (flags_of_port block p))

module _ (block : List ℕ) where
  -- some tests more
  fine_more : (i k j : ℕ) → j ≡ i + k → (every i (low block) && some_fine block i k) ≡ every j (low block)
  unfolding some_fine every
  fine_more i zero j e = rw (e, add-zero) (and-true _)
  fine_more i (suc k) j e =
      let f = low block in
      let r : (i + k) + 1 ≡ j = omega (arith, e) in
      sym (and_assoc (every i f) (some_fine block i k) (f (i + k)))
      ∙ ap (λ (t : Bool). t && f (i + k)) (fine_more i k (i + k) refl)
      ∙ sym (every_next (i + k) f)
      ∙ ap (λ (m : ℕ). every m f) r

  -- and some flags more
  filled_some : (lane₀ lane : List ℕ) (i k j : ℕ) → j ≡ i + k → j ≤ length lane₀ → Filled 0 (flags_of_port block) lane₀ i lane → Filled 0 (flags_of_port block) lane₀ j (some_laid block i k lane)
  unfolding some_laid
  filled_some lane₀ lane i zero j e h F = rw (e, add-zero) F
  filled_some lane₀ lane i (suc k) j e h F =
      let r : j ≡ (i + k) + 1 = omega (arith, e) in
      rw r (filled_more 0 (flags_of_port block) lane₀ (i + k) (some_laid block i k lane) _ (filled_some lane₀ lane i k (i + k) refl (omega (arith, e, h)) F) (omega (arith, e, h)) refl)

pub loop-k-init : goal.loop-k-init
unfolding every
loop-k-init c = record { clean = refl; filled = filled_none _ _ _ }

pub loop-k-preserved : goal.loop-k-preserved
loop-k-preserved c =
    let l = c.loop-k in
    let block = c.args.block.now in
    record {
      clean = ap₂ ◌&&◌ l.invariant.clean c.some_flags-clean.ensures.value ∙ fine_more block (8 * l.k) 8 (8 * (l.k + 1)) (omega arith);
      filled = rw c.some_flags-clean.ensures.lane_after (filled_some block c.args.lane.now l.lane (8 * l.k) 8 (8 * (l.k + 1)) (omega arith) (omega arith) l.invariant.filled);
    }

pub returns : goal.returns
unfolding flag_lane
returns c =
    let l = c.loop-k in
    let n = c.args.n in
    let block = c.args.block.now in
    let e : 8 * l.k ≡ n / 8 * 8 = omega arith in
    let r : n ≡ n / 8 * 8 + n % 8 = omega arith in
    record {
      value = ap₂ ◌&&◌ (l.invariant.clean ∙ ap (λ (k : ℕ). every k (low block)) e) c.some_flags.ensures.value ∙ fine_more block (n / 8 * 8) (n % 8) n r ∙ sym (fine_is n block);
      lane_after =
          filled_below 0 (flags_of_port block) c.args.lane.now most_ports n c.some_flags.new.lane (omega arith)
          (rw c.some_flags.ensures.lane_after (filled_some block c.args.lane.now l.lane (n / 8 * 8) (n % 8) n r (omega arith) (rw e at l.invariant.filled)));
    }
