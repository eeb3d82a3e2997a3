-- The part of a tick that cannot refuse, pass after pass: what the cells and the lane hold after each, by the moves and the sharing that
-- `tick` speaks of.
-- Assumes nothing.
use Prim.Native.Nat.{ℕ, ◌+◌, ◌*◌, ◌/◌, ◌%◌, ◌≤◌, ◌<◌, ◌^◌}
use mathlib.Core.Path.{◌≡◌, refl, sym, ◌∙◌, ap, ap₂}
use mathlib.Core.Bool.{Bool, true, false, cond, not, ◌&&◌, ◌||◌}
use mathlib.Core.List.{List}
use mathlib.Core.Logic.{⊎_elim}
use native.Mathlib.Nat.{div-one, le_trans}
use native.Mathlib.Omega.{arith}
use lib.Dec.{eqb, leb, ltb}
use lib.ListN.{length, get_or, set, length-set, get_or-replicate}
use borrow.Author.Tests.{lt-ltb, le-ltb, le-leb, lt-leb, eq-eqb, ne_eqb, not-true, ltb-false, leb-false, eqb-false}
use Rattle.sizes.specs.Sizes.{most_ports, sample_bytes}
use Rattle.lists.specs.Bits.{bit, field, above, one}
use Rattle.lists.proofs.Bits.{field_low}
use Rattle.lists.specs.Every.{some_below}
use Rattle.lists.proofs.Every.{every_at, nowhere}
use Rattle.lists.specs.Places.{tabulate}
use Rattle.lists.proofs.Places.{side, length_tabulate, get_d_tabulate}
use Rattle.lists.proofs.Tests.{choice}
use Rattle.lists.proofs.Tests.{fails_left, fails_right}
use Rattle.lists.specs.Total.{total}
use Rattle.lists.proofs.Total.{total_cong, total_zero}
use Rattle.power.specs.Power.{tenths, forced}
use Rattle.power.specs.declared.Power.{Power}
use Rattle.sample.specs.Sample.{sample_at, reserved_flags, flags_of}
use Rattle.control.specs.Control.{refused}
use Rattle.port.specs.Changes.{quietly}
use Rattle.port.specs.declared.form.Moved.{Moved}
use Rattle.port.specs.declared.form.Port.{Port}
use Rattle.outcomes.proofs.Open.{open_stays}
use Rattle.diagram.specs.Step.{step}
use Rattle.share.specs.Share.{claimed_sum}
use Rattle.table.specs.Drawn.{draws}
use Rattle.table.specs.Parts.{port_at}
use Rattle.table.specs.declared.form.Table.{Table}
use Rattle.cells.specs.Cells.{cells_long, count_cell, port_of, table_of, port_holds, written, cells_with}
use Rattle.cells.specs.Holds.{Holds}
use Rattle.cells.proofs.Laws.{table_at, written_long, written_cong, written_again, written_set, port_written}
use Rattle.cells.proofs.Round.{holds_written}
use Rattle.quick.proofs.Quick.{signs_of}
use Rattle.quick.specs.Sweep.{signs_by, looked_at, is_marked, looked_lane, sweepable, swept_cells, swept_lane, swept_left}
use Rattle.quick.proofs.Swept.{Fair, swept, looked_written, unmarked_moves, marked_stays}
use Rattle.well.proofs.Laws.{WellCells, cells_of}
use Rattle.boards.proofs.Laws.{Opens, count_after, supply_after, port_after_at}
use Rattle.boards.specs.Sharing.{rank_at, claim_at, port_after, table_after}
use Rattle.block.specs.Digest.{digest}
use Rattle.passes.proofs.FlagSigns.{signs_in, signs_in_lem}
use Rattle.block.specs.Flags.{flags_of_port, flags_fine, flag_lane}
use Rattle.claims.specs.Claimed.{is_set}
use Rattle.tally.specs.Tally.{drawn_on}
use Rattle.passes.specs.Passes.{Classes, whole_move, marked_move, stepped_port, stepped_lane, Ready, moved_on, asked_on, some_ask, shared_by, shared_on, moved_cells}
use Rattle.passes.proofs.Settling.{claimed_at_most, quiet_is, shared_is}
use Rattle.passes.specs.Tick.{moved_at}
use Rattle.passes.proofs.MovesWell.{digest_well, step_well}

-- ---- what a well-made table lets the quick pass go by

-- a word that a write takes has no reserved enable code
enable_small : (w : ℕ) → refused w ≡ false → w % 4 < 3
unfolding refused
enable_small w e =
    let three = eqb (field 0 2 w) 3 in
    let n = eqb-false (field 0 2 w) 3 (fails_left three _ (fails_right (above 6 w) _ e)) in
    let m : w % 4 ≡ 3 → ⊥ = λ q. n (field_low 2 w ∙ q) in
    ⊎_elim (λ (x : w % 4 < 3). x) (λ (x : 3 ≤ w % 4). absurd (m (omega arith))) (side (w % 4) 3)

load_bit : (f : ℕ) → f < 64 → eqb (f / 2 ^ 5 % 2) 1 ≡ leb 32 f
load_bit f h =
    ⊎_elim
    (λ (x : f < 32). ne_eqb (f / 2 ^ 5 % 2) 1 (λ q. omega arith) ∙ sym (lt-leb 32 f x))
    (λ (x : 32 ≤ f). eq-eqb (f / 2 ^ 5 % 2) 1 (omega arith) ∙ sym (le-leb 32 f x))
    (side f 32)

-- the flags of numbers below 64 are told as the sample's
signs_same : (f : ℕ) → f < 64 → signs_in f ≡ signs_by f
unfolding signs_in signs_by flags_of bit
signs_same f h =
    let load = load_bit f h in
    let low = div-one f in
    λ k.
    record {
      detected = eqb (low k % 2) 1;
      classed = eqb (f / 2 % 2) 1;
      settled = eqb (f / 4 % 2) 1;
      limiting = eqb (f / 8 % 2) 1;
      overload = eqb (f / 16 % 2) 1;
      load = load k;
    }

-- a test that passes nowhere
nowhere_at : (n : ℕ) (f : ℕ → Bool) → some_below n f ≡ false → (p : ℕ) → p < n → f p ≡ false
nowhere_at n f e p h = not-true (f p) (every_at n (λ q. not (f q)) (sym (nowhere n f) ∙ ap not e) p h)

set_one : (b : Bool) → is_set (one b) ≡ b
set_one true = refl
set_one false = refl

module _ (l block lane : List ℕ) (ready : Ready l block lane) where
  abbrev n : ℕ
  n = count_cell l

  abbrev t : Table
  t = table_of l

  abbrev mv : ℕ → Moved
  mv = moved_at t block

  well : WellCells l
  well = cells_of l ready.well

  abbrev few : n ≤ most_ports
  few = well.few_ports

  long : 584 ≤ length l
  long = omega (arith, well.long)

  -- ---- the lane of flags
  pub lane_long : length lane ≡ most_ports
  unfolding flag_lane
  lane_long = ap length ready.flags ∙ length_tabulate most_ports _

  lane_at : (p : ℕ) → p < most_ports → get_or lane p 0 ≡ cond (ltb p n) (flags_of_port block p) 0
  unfolding flag_lane
  lane_at p h =
      ap (λ (x : List ℕ). get_or x p 0) ready.flags
      ∙ get_d_tabulate most_ports _ 0 p h
      ∙ ap (cond (ltb p n) (flags_of_port block p)) (get_or-replicate most_ports p 0 0 h)

  lane_flags : (p : ℕ) → p < n → get_or lane p 0 ≡ flags_of_port block p
  lane_flags p h = lane_at p (omega (arith, few)) ∙ simp (lt-ltb p n h)

  lane_past : (p : ℕ) → n ≤ p → p < most_ports → get_or lane p 0 ≡ 0
  lane_past p h k = lane_at p k ∙ simp (le-ltb p n h)

  flags_small : (p : ℕ) → p < n → flags_of_port block p < 64
  unfolding flags_fine reserved_flags above
  flags_small p h = leb-false 64 (flags_of_port block p) (not-true _ (every_at n _ ready.fine p h))

  -- ---- the quick pass
  fair : (p : ℕ) → p < n → Fair l p
  unfolding port_of
  fair p h =
      let w = well.ports p h in
      record {
        holds = well.holds p h;
        enable = enable_small (get_or l (56 + p) 0) w.control;
        counts = record { limiting = w.counts.limiting; overload = w.counts.overload; no_load = w.counts.no_load };
      }

  sweeps : sweepable l lane ≡ true
  unfolding sweepable
  sweeps = simp (eq-eqb _ _ well.long, eq-eqb _ _ lane_long, le-leb n most_ports few)

  abbrev after : ℕ → Port
  after p = swept (get_or lane p 0) l p

  cells1 : swept_cells l lane ≡ written n after l
  unfolding swept_cells
  cells1 = simp sweeps (looked_written lane l n few well.long fair)

  lane1_at : (p : ℕ) → p < most_ports → get_or (swept_lane l lane) p 0 ≡ cond (ltb p n) (looked_at (get_or lane p 0) l p).mark (get_or lane p 0)
  unfolding swept_lane looked_lane
  lane1_at p h = simp sweeps (get_d_tabulate most_ports _ 0 p h)

  lane1_set : (p : ℕ) → p < n → is_set (get_or (swept_lane l lane) p 0) ≡ is_marked (get_or lane p 0) l p
  unfolding is_marked
  lane1_set p h =
      ap is_set (lane1_at p (omega (arith, few)))
      ∙ ap (λ (b : Bool). is_set (cond b (looked_at (get_or lane p 0) l p).mark (get_or lane p 0))) (lt-ltb p n h)

  lane1_past : (p : ℕ) → n ≤ p → p < most_ports → get_or (swept_lane l lane) p 0 ≡ 0
  lane1_past p h k = lane1_at p k ∙ simp (le-ltb p n h) (lane_past p h k)

  pub lane1_long : length (swept_lane l lane) ≡ most_ports
  unfolding swept_lane looked_lane
  lane1_long = simp sweeps (length_tabulate most_ports _)

  port1 : (p : ℕ) → p < n → port_of (swept_cells l lane) p ≡ after p
  port1 p h = ap (λ (x : List ℕ). port_of x p) cells1 ∙ port_written n after l few long p h

  pub cells1_long : length (swept_cells l lane) ≡ cells_long
  cells1_long = ap length cells1 ∙ written_long n after l ∙ well.long

  pub cells1_holds : Holds n (swept_cells l lane)
  cells1_holds p h = ap (λ (x : List ℕ). port_holds x p) cells1 ∙ holds_written n after l few long p h

  pub cells1_classes : Classes n (swept_cells l lane)
  unfolding port_of swept
  cells1_classes p h =
      let e : get_or (swept_cells l lane) (152 + p) 0 ≡ get_or l (152 + p) 0 = ap (λ (x : Port). x.class) (port1 p h) in
      omega (arith, well.class p h)

  -- ---- the move of each port, quick or whole
  reading_signs : (p : ℕ) → p < n → signs_of (digest (sample_at block (sample_bytes * p))) ≡ signs_by (get_or lane p 0)
  unfolding flags_of_port
  reading_signs p h =
      signs_in_lem (sample_at block (sample_bytes * p)) ∙ signs_same (flags_of_port block p) (flags_small p h) ∙ ap signs_by (sym (lane_flags p h))

  mv_is : (p : ℕ) → p < n → mv p ≡ step forced (port_of l p) (digest (sample_at block (sample_bytes * p)))
  unfolding moved_at
  mv_is p h = ap (λ (x : Port). step forced x (digest (sample_at block (sample_bytes * p)))) (table_at l p (omega (arith, few)))

  unmarked_is : (p : ℕ) → p < n → is_marked (get_or lane p 0) l p ≡ false → mv p ≡ quietly (after p)
  unmarked_is p h e = mv_is p h ∙ unmarked_moves forced (get_or lane p 0) l p (fair p h) (digest (sample_at block (sample_bytes * p))) (reading_signs p h) e

  move_is : (p : ℕ) → p < n → marked_move (get_or (swept_lane l lane) p 0) block (swept_cells l lane) p ≡ mv p
  unfolding marked_move whole_move
  move_is p h = ap (λ (b : Bool). cond b (whole_move block (swept_cells l lane) p) (quietly (port_of (swept_cells l lane) p))) (lane1_set p h) ∙ go (is_marked (get_or lane p 0) l p) refl
    where
      go : (b : Bool) → is_marked (get_or lane p 0) l p ≡ b → cond b (step forced (port_of (swept_cells l lane) p) (digest (sample_at block (sample_bytes * p)))) (quietly (port_of (swept_cells l lane) p)) ≡ mv p
      go true q =
          ap (λ (x : Port). step forced x (digest (sample_at block (sample_bytes * p)))) (port1 p h ∙ marked_stays forced (get_or lane p 0) l p (fair p h) (digest (sample_at block (sample_bytes * p))) (reading_signs p h) q)
          ∙ sym (mv_is p h)
      go false q = ap quietly (port1 p h) ∙ sym (unmarked_is p h q)

  -- no port is marked
  none_left : swept_left l lane ≡ false → (p : ℕ) → p < n → is_marked (get_or lane p 0) l p ≡ false
  unfolding swept_left
  none_left e p h = nowhere_at n (λ q. is_marked (get_or lane q 0) l q) (sym (ap (λ (b : Bool). b && some_below n (λ q. is_marked (get_or lane q 0) l q)) sweeps) ∙ e) p h

  abbrev m2 : List ℕ
  m2 = moved_on l block lane

  abbrev lane2 : List ℕ
  lane2 = asked_on l block lane

  pub moved_cells_lem : m2 ≡ written n (λ p. (mv p).port) l
  unfolding moved_on stepped_port
  moved_cells_lem = go (swept_left l lane) refl
    where
      stepped : (x : List ℕ) → x ≡ written n after l → written n (λ p. (mv p).port) x ≡ written n (λ p. (mv p).port) l
      stepped x e = ap (written n (λ p. (mv p).port)) e ∙ written_again n after (λ p. (mv p).port) l few long

      go : (b : Bool) → swept_left l lane ≡ b → cond b (written n (λ p. (marked_move (get_or (swept_lane l lane) p 0) block (swept_cells l lane) p).port) (swept_cells l lane)) (swept_cells l lane) ≡ written n (λ p. (mv p).port) l
      go true q =
          written_cong n _ (λ p. (mv p).port) (swept_cells l lane) few (omega (arith, cells1_long)) (λ p h. ap (λ (m : Moved). m.port) (move_is p h))
          ∙ stepped (swept_cells l lane) cells1
      go false q = cells1 ∙ written_cong n after (λ p. (mv p).port) l few long (λ p h. sym (ap (λ (m : Moved). m.port) (unmarked_is p h (none_left q p h))))

  pub asked_long : length lane2 ≡ most_ports
  unfolding asked_on stepped_lane
  asked_long = choice (λ (x : List ℕ). length x ≡ most_ports) (swept_left l lane) _ (swept_lane l lane) (length_tabulate most_ports _) lane1_long

  asked_at : (p : ℕ) → p < n → is_set (get_or lane2 p 0) ≡ (mv p).asks
  unfolding asked_on stepped_lane
  asked_at p h = go (swept_left l lane) refl
    where
      go : (b : Bool) → swept_left l lane ≡ b → is_set (get_or (cond b (tabulate most_ports (λ q. cond (ltb q n) (one (marked_move (get_or (swept_lane l lane) q 0) block (swept_cells l lane) q).asks) (get_or (swept_lane l lane) q 0))) (swept_lane l lane)) p 0) ≡ (mv p).asks
      go true q =
          ap is_set (get_d_tabulate most_ports _ 0 p (omega (arith, few)))
          ∙ ap (λ (b : Bool). is_set (cond b (one (marked_move (get_or (swept_lane l lane) p 0) block (swept_cells l lane) p).asks) (get_or (swept_lane l lane) p 0))) (lt-ltb p n h)
          ∙ set_one (marked_move (get_or (swept_lane l lane) p 0) block (swept_cells l lane) p).asks
          ∙ ap (λ (m : Moved). m.asks) (move_is p h)
      go false q = lane1_set p h ∙ none_left q p h ∙ sym (ap (λ (m : Moved). m.asks) (unmarked_is p h (none_left q p h)))

  -- where it is said that no port asks, none does
  none_asks : some_ask l block lane ≡ false → (p : ℕ) → p < n → (mv p).asks ≡ false
  unfolding some_ask
  none_asks e p h = go (swept_left l lane) refl e
    where
      go : (b : Bool) → swept_left l lane ≡ b → cond b (some_below n (λ q. (marked_move (get_or (swept_lane l lane) q 0) block (swept_cells l lane) q).asks)) false ≡ false → (mv p).asks ≡ false
      go true q z = sym (ap (λ (m : Moved). m.asks) (move_is p h)) ∙ nowhere_at n (λ q. (marked_move (get_or (swept_lane l lane) q 0) block (swept_cells l lane) q).asks) z p h
      go false q z = ap (λ (m : Moved). m.asks) (unmarked_is p h (none_left q p h))

  -- ---- the sharing
  port2 : (p : ℕ) → p < n → port_of m2 p ≡ (mv p).port
  port2 p h = ap (λ (x : List ℕ). port_of x p) moved_cells_lem ∙ port_written n (λ p. (mv p).port) l few long p h

  pub cells2_long : length m2 ≡ cells_long
  cells2_long = ap length moved_cells_lem ∙ written_long n (λ p. (mv p).port) l ∙ well.long

  pub cells2_holds : Holds n m2
  cells2_holds p h = ap (λ (x : List ℕ). port_holds x p) moved_cells_lem ∙ holds_written n (λ p. (mv p).port) l few long p h

  pub cells2_classes : Classes n m2
  unfolding port_of
  cells2_classes p h =
      let e : get_or m2 (152 + p) 0 ≡ (mv p).port.class = ap (λ (x : Port). x.class) (port2 p h) in
      let w = step_well (port_of l p) (digest (sample_at block (sample_bytes * p))) (digest_well (sample_at block (sample_bytes * p))) (well.ports p h) in
      let f : (mv p).port.class ≡ (step forced (port_of l p) (digest (sample_at block (sample_bytes * p)))).port.class = ap (λ (m : Moved). m.port.class) (mv_is p h) in
      omega (arith, w.class)

  opens : Opens t mv
  unfolding moved_at
  opens p h = open_stays forced (port_at t p) (digest (sample_at block (sample_bytes * p)))

  module _ (supply : ℕ) where
    drawn_is : drawn_on n m2 ≡ total n (λ p. draws (mv p).port)
    unfolding drawn_on
    drawn_is = total_cong n (λ p. draws (port_of m2 p)) (λ p. draws (mv p).port) (λ p h. ap draws (port2 p h))

    pub shared_cells : shared_on n lane2 (some_ask l block lane) supply m2 ≡ written n (port_after t mv (tenths supply)) l
    unfolding shared_on table_of
    shared_cells = go (some_ask l block lane) (ltb supply (drawn_on n m2)) refl refl
      where
        again : (f : ℕ → Port) → written n f m2 ≡ written n f l
        again f = ap (written n f) moved_cells_lem ∙ written_again n (λ p. (mv p).port) f l few long

        shared : written n (shared_by n lane2 (drawn_on n m2) supply m2) m2 ≡ written n (port_after t mv (tenths supply)) l
        shared =
            written_cong n (shared_by n lane2 (drawn_on n m2) supply m2) (port_after t mv (tenths supply)) m2 few (omega (arith, cells2_long))
            (λ p h. shared_is t mv opens few m2 lane2 port2 asked_at (tenths supply) (drawn_on n m2) drawn_is p h)
            ∙ again (port_after t mv (tenths supply))

        go : (a b : Bool) → some_ask l block lane ≡ a → ltb supply (drawn_on n m2) ≡ b → cond (a || b) (written n (shared_by n lane2 (drawn_on n m2) supply m2) m2) m2 ≡ written n (port_after t mv (tenths supply)) l
        go true b q r = shared
        go false true q r = shared
        go false false q r =
            let wants : total n (λ p. cond (mv p).asks (mv p).port.demand.0 0) ≡ 0 = total_zero n _ (λ p h. ap (λ (a : Bool). cond a (mv p).port.demand.0 0) (none_asks q p h)) in
            let fits : claimed_sum most_ports (rank_at t mv) (λ q. (claim_at t mv q).0) ≤ supply = le_trans (claimed_at_most t mv opens few m2 lane2 port2 asked_at) (omega (arith, wants, drawn_is, ltb-false supply (drawn_on n m2) r)) in
            moved_cells_lem
            ∙ written_cong n (λ p. (mv p).port) (port_after t mv (tenths supply)) l few long (λ p h. quiet_is t mv opens few m2 lane2 port2 asked_at (tenths supply) fits p h (none_asks q p h))

    abbrev told : Table
    told = table_after t mv (tenths supply)

    -- the figure is stored, and the cells are the tick's
    pub stored_cells : set (shared_on n lane2 (some_ask l block lane) supply m2) 1 supply ≡ moved_cells l block supply
    unfolding moved_cells cells_with table_of
    stored_cells =
        let long' : 584 ≤ length (set l 1 supply) = omega (arith, length-set l 1 supply, long) in
        ap (λ (x : List ℕ). set x 1 supply) shared_cells
        ∙ written_set n (port_after t mv (tenths supply)) l 1 supply few long (omega arith)
        ∙ written_cong n (port_after t mv (tenths supply)) (port_at told) (set l 1 supply) few long' (λ p h. sym (port_after_at t mv (tenths supply) p (omega (arith, few))))
        ∙ ap₂ (λ (k : ℕ) (s : ℕ). written k (port_at told) (set l 1 s)) (sym (count_after t mv (tenths supply))) (sym (ap (λ (x : Power). x.0) (supply_after t mv (tenths supply))))

    pub stored_long : length (set (shared_on n lane2 (some_ask l block lane) supply m2) 1 supply) ≡ cells_long
    stored_long = length-set (shared_on n lane2 (some_ask l block lane) supply m2) 1 supply ∙ ap length shared_cells ∙ written_long n (port_after t mv (tenths supply)) l ∙ well.long

    -- and so are their ports
    pub stored_port : (p : ℕ) → p < n → port_of (set (shared_on n lane2 (some_ask l block lane) supply m2) 1 supply) p ≡ port_at told p
    unfolding table_of
    stored_port p h =
        let long' : 584 ≤ length (set l 1 supply) = omega (arith, length-set l 1 supply, long) in
        ap (λ (x : List ℕ). port_of (set x 1 supply) p) shared_cells
        ∙ ap (λ (x : List ℕ). port_of x p) (written_set n (port_after t mv (tenths supply)) l 1 supply few long (omega arith))
        ∙ port_written n (port_after t mv (tenths supply)) (set l 1 supply) few long' p h
        ∙ sym (port_after_at t mv (tenths supply) p (omega (arith, few)))
