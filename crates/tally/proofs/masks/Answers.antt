use Rattle.std.proofs.Common.{◌≡◌, ℕ, ◌+◌, ◌*◌, ◌/◌, ◌%◌, ◌^◌, ◌≤◌, ◌<◌, Bool, refl, sym, ◌∙◌, ap, ap₂, arith}
use native.Mathlib.Nat.{le_trans}
use lib.Count.{ones, ones-le}
use Rattle.sizes.specs.Sizes.{most_ports}
use Rattle.lists.specs.Count.{mask}
use Rattle.lists.proofs.Count.{mask_below, mask_join}
use Rattle.lists.specs.Total.{total}
use Rattle.tally.specs.Tally.{is_a, is_b, named}
use Rattle.tally.proofs.Tally.{masked, weighed_low, weighed_high}
use Rattle.tally.proofs.masks.Goals as goal

below : (m x : ℕ) (f : ℕ → Bool) → x ≡ mask m f → x < 2 ^ m
below m x f e = rw e (mask_below m f)

few : (k x : ℕ) (f : ℕ → Bool) → x ≡ mask (8 * k) f → k ≤ 6 → ones x ≤ most_ports
few k x f e h = le_trans (ones-le (8 * k) x (below (8 * k) x f e)) (omega arith)

-- a byte above the mask so far is the mask of eight places more
more : (f : ℕ → Bool) (k x y r : ℕ) → x ≡ mask (8 * k) f → y ≡ mask 8 (λ j. f (8 * k + j)) → r ≡ x + y * 2 ^ (8 * k) → r ≡ mask (8 * (k + 1)) f
more f k x y r e q h =
    let s : 8 * k + 8 ≡ 8 * (k + 1) = omega arith in
    h ∙ ap₂ (λ (u v : ℕ). u + v * 2 ^ (8 * k)) e q ∙ sym (mask_join (8 * k) 8 f) ∙ ap (λ (m : ℕ). mask m f) s

pub loop-k-init : goal.loop-k-init
unfolding mask total
loop-k-init c = (refl, refl)

pub placed-a-requires : goal.placed-a-requires
placed-a-requires c = (below _ _ (is_a c.args.lane.now) c.loop-k.invariant.0, omega arith, omega arith)

pub placed-b-requires : goal.placed-b-requires
placed-b-requires c =
    let l = c.loop-k in
    let lane = c.args.lane.now in
    (below _ _ (is_b lane) l.invariant.1, omega (arith, c.eight-both.ensures, weighed_high lane (8 * l.k) c.requires (omega arith), mask_below 8 (λ j. is_b lane (8 * l.k + j))), omega arith)

pub loop-k-preserved : goal.loop-k-preserved
loop-k-preserved c =
    let l = c.loop-k in
    let lane = c.args.lane.now in
    let w = c.eight-both.ensures in (
      more (is_a lane) l.k l.a _ _ l.invariant.0 (ap (λ (x : ℕ). x % 256) w ∙ weighed_low lane (8 * l.k) c.requires (omega arith)) c.placed-a.ensures,
      more (is_b lane) l.k l.b _ _ l.invariant.1 (ap (λ (x : ℕ). x / 256) w ∙ weighed_high lane (8 * l.k) c.requires (omega arith)) c.placed-b.ensures,
    )

pub overflow_add-result : goal.overflow_add-result
overflow_add-result c =
    let l = c.loop-k in
    let lane = c.args.lane.now in
    omega (arith, few l.k l.a (is_a lane) l.invariant.0 (omega arith), few l.k l.b (is_b lane) l.invariant.1 (omega arith))

pub returns : goal.returns
unfolding named
returns c =
    let e : c.loop-k.k ≡ 6 = omega arith in
    ap₂ masked (rw e at c.loop-k.invariant.0) (rw e at c.loop-k.invariant.1)
