use Rattle.std.proofs.Common.{◌≡◌, ℕ, ◌+◌, ◌-◌, ◌≤◌, ◌<◌, ◌||◌, ◌∙◌, cond, get_or, refl, sym, ap, ap₂, add-one, arith}
use Rattle.lists.specs.Bits.{one}
use Rattle.lists.specs.Every.{some_below}
use Rattle.lists.proofs.Places.{filled_none, filled_more, filled_below}
use Rattle.port.specs.declared.form.Moved.{Moved}
use Rattle.cells.specs.Writes.{with_port_cells}
use Rattle.claims.specs.Claimed.{is_set}
use Rattle.passes.proofs.Moving.{come_none, come_all, come_class, come_moved, come_stepped, come_over, filled_skip, some_skip}
use Rattle.passes.specs.Passes.{whole_move, marked_move, stepped_port, stepped_lane}
use Rattle.tick.proofs.Asking.{asks_at, asking, unmarked, stepped_is}
use Rattle.tick.proofs.steps.steps.Goals as goal

pub loop-p-init : goal.loop-p-init
unfolding some_below
loop-p-init c = (omega arith, come_none _ _ _ c.requires.0.few c.told-cells c.requires.0.holds, filled_none _ _ _, refl)

pub loop-p-preserved-then-clear_ahead : goal.loop-p-preserved-then-clear_ahead
loop-p-preserved-then-clear_ahead c =
    let l = c.loop-p in
    let lane = c.args.lane.now in
    let block = c.args.block.now in
    let cells = c.args.cells.now in
    let clear = c.clear_ahead.ensures c.if-clear_ahead.true in
    let zero : (q : ℕ) → l.p ≤ q → q < l.p + 8 → get_or l.lane q 0 ≡ 0 = λ q a b.
    ap (λ (k : ℕ). get_or l.lane k 0) (let x : q ≡ l.p + (q - l.p) = omega arith in x) ∙ clear.1 (q - l.p) (omega arith) in
    let plain : (q : ℕ) → l.p ≤ q → q < l.p + 8 → get_or lane q 0 ≡ 0 = λ q a b. sym (l.invariant.2.left q a) ∙ zero q a b in (
      clear.0,
      come_over c.args.n (stepped_port lane block cells) cells c.requires.0.few c.told-cells l.p l.cells l.invariant.1 (l.p + 8) (omega arith) (λ q a b d. (unmarked lane block cells q (plain q a b)).0),
      filled_skip (asking lane block cells) lane l.lane l.p (l.p + 8) (omega arith) l.invariant.2 (λ q a b. zero q a b ∙ sym (ap one (unmarked lane block cells q (plain q a b)).1)),
      l.invariant.3 ∙ sym (some_skip (asks_at lane block cells) l.p 8 (λ q a b. (unmarked lane block cells q (plain q a b)).1)),
    )

pub stepped-asks-requires : goal.stepped-asks-requires
stepped-asks-requires c =
    let l = c.loop-p in
    let r = c.requires.0 in
    let t = c.loop-p-test.true in (
      omega (arith, r.few),
      omega (arith, c.requires.1),
      omega (arith, come_class c.args.n _ c.args.cells.now r.few c.told-cells l.p l.cells l.invariant.1 t, r.classes l.p t),
    )

pub loop-p-preserved : goal.loop-p-preserved
unfolding some_below
loop-p-preserved c =
    let l = c.loop-p in
    let few = c.requires.0.few in
    let t = c.loop-p-test.true in
    let lane = c.args.lane.now in
    let block = c.args.block.now in
    let cells = c.args.cells.now in
    let q = c.stepped-asks in
    let mark : get_or l.lane l.p 0 ≡ get_or lane l.p 0 = l.invariant.2.left l.p (omega arith) in
    let asks : q.result ≡ asks_at lane block cells l.p =
    q.ensures.value ∙ ap (λ (k : ℕ). (marked_move k block l.cells l.p).asks) mark
    ∙ ap (λ (m : Moved). m.asks) (come_moved c.args.n (stepped_port lane block cells) cells few c.told-cells l.p l.cells l.invariant.1 t (get_or lane l.p 0) block) in (
      omega arith,
      q.ensures.cells_after ∙ ap (λ (k : ℕ). cond (is_set k) (with_port_cells l.p (whole_move block l.cells l.p).port l.cells) l.cells) mark
          ∙ come_stepped c.args.n (stepped_port lane block cells) cells few c.told-cells l.p l.cells l.invariant.1 t (get_or lane l.p 0) block (stepped_is lane block cells l.p),
      filled_more 0 (asking lane block cells) lane l.p l.lane _ l.invariant.2 (omega (arith, few, c.told-lane)) (ap one asks),
      ap₂ ◌||◌ l.invariant.3 asks ∙ ap (λ (k : ℕ). some_below k (asks_at lane block cells)) (sym (add-one l.p)),
    )

pub returns : goal.returns
unfolding stepped_lane
returns c =
    let l = c.loop-p in
    let few = c.requires.0.few in
    let lane = c.args.lane.now in
    let block = c.args.block.now in
    let cells = c.args.cells.now in
    let e : l.p ≡ c.args.n = omega arith in
    record {
      value = rw e at l.invariant.3;
      cells_after = come_all c.args.n (stepped_port lane block cells) cells few c.told-cells l.cells (rw e at l.invariant.1);
      lane_after = filled_below 0 (asking lane block cells) lane _ c.args.n l.lane c.told-lane (rw e at l.invariant.2);
    }
