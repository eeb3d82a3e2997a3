-- The tick's table and answer, pass after pass.
use Rattle.std.proofs.Common.{◌≡◌, ℕ, ◌∙◌, Bool, List, length, set, ap, ap₂}
use Rattle.power.specs.Power.{tenths}
use Rattle.cells.specs.Cells.{count_cell, port_of, table_of}
use Rattle.well.proofs.Laws.{cells_of}
use Rattle.boards.proofs.Laws.{count_after}
use Rattle.boards.specs.Sharing.{table_after}
use Rattle.passes.specs.Passes.{some_ask, moved_on, asked_on, shared_on, moved_answer}
use Rattle.tally.proofs.Tally.{side_lane_answer, closed_in_lem}
use Rattle.passes.specs.Tick.{moved_at}
use Rattle.passes.proofs.Ticking.{asked_long, cells2_holds, cells2_classes, stored_cells, stored_long, stored_port}
use Rattle.tick.proofs.moved.Goals as goal

-- the cells after the sharing and with the figure, by what the moves left
stored_as : (n s : ℕ) (x x' y y' : List ℕ) (a a' : Bool) (z : List ℕ) → z ≡ shared_on n y a s x → x ≡ x' → y ≡ y' → a ≡ a' → set z 1 s ≡ set (shared_on n y' a' s x') 1 s
stored_as n s x x' y y' a a' z e ex ey ea =
    ap (λ (v : List ℕ). set v 1 s) (e ∙ ap₂ (λ (u v : List ℕ). shared_on n v a s u) ex ey ∙ ap (λ (k : Bool). shared_on n y' k s x') ea)

pub share_all-requires : goal.share_all-requires
share_all-requires c =
    let l = c.args.cells.now in
    let b = c.args.block.now in
    let lane = c.args.lane.now in
    let q = c.move_all-asks.ensures in
    record {
      few = (cells_of l c.requires.well).few_ports;
      holds = rw q.cells_after (cells2_holds l b lane c.requires);
      classes = rw q.cells_after (cells2_classes l b lane c.requires);
    }

pub returns : goal.returns
unfolding moved_answer table_of
returns c =
    let l = c.args.cells.now in
    let b = c.args.block.now in
    let lane = c.args.lane.now in
    let s = c.args.supply.0 in
    let q = c.move_all-asks.ensures in
    let few = (cells_of l c.requires.well).few_ports in
    let e = stored_as (count_cell l) s _ (moved_on l b lane) _ (asked_on l b lane) _ (some_ask l b lane) _ c.share_all.ensures q.cells_after q.lane_after q.value in
    let long = ap (λ (x : List ℕ). length x) e ∙ stored_long l b lane c.requires s in
    let wide = ap (λ (x : List ℕ). length x) q.lane_after ∙ asked_long l b lane c.requires in
    let T = table_after (table_of l) (moved_at (table_of l) b) (tenths s) in
    record {
      value =
          c.closed_ports.ensures.value
          ∙ closed_in_lem (count_cell l) _ few long _ wide
          ∙ side_lane_answer (count_cell l) _ T (count_after (table_of l) (moved_at (table_of l) b) (tenths s))
          (λ p h. ap (λ (x : List ℕ). port_of x p) e ∙ stored_port l b lane c.requires s p h);
      cells_after = e ∙ stored_cells l b lane c.requires s;
    }
