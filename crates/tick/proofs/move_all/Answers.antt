-- The quick pass, and the whole steps where it has marked a port.
use Rattle.std.proofs.Common.{◌≡◌, ℕ, ◌∙◌, true, false, List, get_or, sym, ap₂}
use Rattle.lists.specs.Every.{some_below}
use Rattle.cells.specs.Cells.{count_cell, written}
use Rattle.quick.specs.Sweep.{swept_left}
use Rattle.well.proofs.Laws.{cells_of}
use Rattle.passes.specs.Passes.{marked_move, stepped_port, stepped_lane, some_ask, moved_on, asked_on}
use Rattle.passes.proofs.Ticking.{cells1_holds, cells1_classes}
use Rattle.tick.proofs.move_all.Goals as goal

pub returns-then-not-sweep : goal.returns-then-not-sweep
unfolding some_ask moved_on asked_on
returns-then-not-sweep c =
    let q = c.sweep.ensures in
    let f : swept_left c.args.cells.now c.args.lane.now ≡ false = sym q.value ∙ c.if-not-sweep.true in
    record { value = simp f; cells_after = simp f q.cells_after; lane_after = simp f q.lane_after }

pub steps-requires : goal.steps-requires
steps-requires c =
    let l = c.args.cells.now in
    let b = c.args.block.now in
    let lane = c.args.lane.now in
    let q = c.sweep.ensures in (
      record {
        few = (cells_of l c.requires.well).few_ports;
        holds = rw q.cells_after (cells1_holds l b lane c.requires);
        classes = rw q.cells_after (cells1_classes l b lane c.requires);
      },
      c.requires.sized,
    )

pub returns : goal.returns
unfolding some_ask moved_on asked_on
returns c =
    let l = c.args.cells.now in
    let b = c.args.block.now in
    let lane = c.args.lane.now in
    let q = c.sweep.ensures in
    let e = c.steps.ensures in
    let t : swept_left l lane ≡ true = sym q.value ∙ c.if-not-sweep.false in
    record {
      value = simp t (e.value ∙ ap₂ (λ (x y : List ℕ). some_below (count_cell l) (λ p. (marked_move (get_or y p 0) b x p).asks)) q.cells_after q.lane_after);
      cells_after = simp t (e.cells_after ∙ ap₂ (λ (x y : List ℕ). written (count_cell l) (stepped_port y b x) x) q.cells_after q.lane_after);
      lane_after = simp t (e.lane_after ∙ ap₂ (λ (x y : List ℕ). stepped_lane (count_cell l) b x y) q.cells_after q.lane_after);
    }
