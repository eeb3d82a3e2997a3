-- What the passes of a tick hand to each other. A reader of the tick needs none of this: `tick` and `table_after` are its meaning.
-- Assumes nothing.
use Rattle.std.specs.Prelude.{ℕ, ◌+◌, ◌*◌, ◌<◌, ◌≤◌, ◌≡◌, Bool, true, false, cond, ◌||◌, List, ltb, leb, eqb, length, get_or, replicate, Result, Ok}
use Rattle.sizes.specs.Sizes.{most_ports, most_supply, sample_bytes}
use Rattle.sizes.specs.Refused.{refused}
use Rattle.sizes.specs.declared.refusals.Refusal.{Refusal}
use Rattle.lists.specs.Bits.{one}
use Rattle.lists.specs.Every.{some_below}
use Rattle.lists.specs.Places.{tabulate}
use Rattle.lists.specs.Total.{total}
use Rattle.power.specs.Power.{forced, tenths}
use Rattle.power.specs.declared.Power.{Power}
use Rattle.sample.specs.Sample.{sample_at}
use Rattle.port.specs.Changes.{quietly}
use Rattle.port.specs.declared.form.Moved.{Moved}
use Rattle.port.specs.declared.form.Port.{Port}
use Rattle.diagram.specs.Step.{step}
use Rattle.settling.specs.Claim.{settled_as}
use Rattle.share.specs.Given.{rank_of, demand_of}
use Rattle.share.specs.Share.{no_claim, keeps}
use Rattle.share.specs.declared.Claim.{Claim}
use Rattle.table.specs.declared.form.Closed.{Closed}
use Rattle.cells.specs.Cells.{count_cell, port_of, table_of, written, cells_with}
use Rattle.cells.specs.Holds.{Holds}
use Rattle.quick.specs.Sweep.{swept_cells, swept_lane, swept_left}
use Rattle.well.specs.Judged.{well_cells}
use Rattle.boards.specs.Masks.{closed_ports}
use Rattle.boards.specs.Sharing.{table_after}
use Rattle.block.specs.Digest.{digest}
use Rattle.block.specs.Flags.{flags_fine, flag_lane}
use Rattle.claims.specs.Claimed.{is_set, wants, claims_on}
use Rattle.tally.specs.Tally.{drawn_on}
use Rattle.passes.specs.Tick.{moved_at}

-- ---- the tests

-- the refusal, or the supply that the figure is
unfoldable pub checked_on : Bool → ℕ → List ℕ → ℕ → Result Power Refusal
checked_on well n block figure =
    cond well (cond (eqb (length block) (sample_bytes * n)) (cond (ltb most_supply figure) (refused 4) (cond (flags_fine n block) (Ok (tenths figure)) (refused 3))) (refused 1)) (refused 13)

-- ---- the moves

-- classes that fit a byte, so that a port can be taken out of its cells
abbrev pub Classes : ℕ → List ℕ → Type 0
Classes n l = (p : ℕ) → p < n → get_or l (152 + p) 0 < 256

-- cells out of which n ports can be taken, and into which they can be put
pub record Portable (n : ℕ) (l : List ℕ) : Type 0 where
  pub few : n ≤ most_ports
  pub holds : Holds n l
  pub classes : Classes n l

-- the whole step of the port at a place
unfoldable pub whole_move : List ℕ → List ℕ → ℕ → Moved
whole_move block l p = step forced (port_of l p) (digest (sample_at block (sample_bytes * p)))

-- a port that is not marked has moved already
unfoldable pub marked_move : ℕ → List ℕ → List ℕ → ℕ → Moved
marked_move mark block l p = cond (is_set mark) (whole_move block l p) (quietly (port_of l p))

unfoldable pub stepped_port : List ℕ → List ℕ → List ℕ → ℕ → Port
stepped_port lane block l p = (marked_move (get_or lane p 0) block l p).port

-- a lane with a 1 for each of the first n ports that asks
unfoldable pub stepped_lane : ℕ → List ℕ → List ℕ → List ℕ → List ℕ
stepped_lane n block l lane = tabulate most_ports (λ p. cond (ltb p n) (one (marked_move (get_or lane p 0) block l p).asks) (get_or lane p 0))

-- ---- the sharing, of ports that have moved

-- the places that keep their claim
unfoldable pub kept_on : List Claim → ℕ → List Bool
kept_on claims supply = tabulate most_ports (keeps most_ports (rank_of claims) (demand_of claims) supply)

-- the port at a place settled, by its rank and whether its claim was kept
unfoldable pub settled_by : List Claim → List Bool → List ℕ → ℕ → Port
settled_by claims kept l p = (settled_as (rank_of claims p) (get_or kept p false) (port_of l p)).port

-- and where every claim is kept: an asker's rank is 3 or more
unfoldable pub admitted_by : List ℕ → List ℕ → ℕ → Port
admitted_by lane l p = (settled_as (cond (is_set (get_or lane p 0)) 3 no_claim) true (port_of l p)).port

unfoldable pub shared_by : ℕ → List ℕ → ℕ → ℕ → List ℕ → ℕ → Port
shared_by n lane drawn supply l p =
    cond (leb (drawn + total n (λ q. wants (get_or lane q 0) l q)) supply) (admitted_by lane l p)
    (settled_by (claims_on n lane l) (kept_on (claims_on n lane l) supply) l p)

-- ---- the part that cannot refuse

-- what the refusals leave to it: the cells, the block and a lane of flags
pub record Ready (l block lane : List ℕ) : Type 0 where
  pub well : well_cells l ≡ true
  pub sized : length block ≡ sample_bytes * count_cell l
  pub fine : flags_fine (count_cell l) block ≡ true
  pub flags : lane ≡ flag_lane (count_cell l) block (replicate most_ports 0)

-- the cells, the lane and whether a port asks, after the quick pass and the whole steps of the ports that it marked
unfoldable pub moved_on : List ℕ → List ℕ → List ℕ → List ℕ
moved_on l block lane =
    cond (swept_left l lane) (written (count_cell l) (stepped_port (swept_lane l lane) block (swept_cells l lane)) (swept_cells l lane)) (swept_cells l lane)

unfoldable pub asked_on : List ℕ → List ℕ → List ℕ → List ℕ
asked_on l block lane = cond (swept_left l lane) (stepped_lane (count_cell l) block (swept_cells l lane) (swept_lane l lane)) (swept_lane l lane)

unfoldable pub some_ask : List ℕ → List ℕ → List ℕ → Bool
some_ask l block lane =
    cond (swept_left l lane) (some_below (count_cell l) (λ p. (marked_move (get_or (swept_lane l lane) p 0) block (swept_cells l lane) p).asks)) false

-- the cells after the sharing: it is left out where no port asks and what is closed fits
unfoldable pub shared_on : ℕ → List ℕ → Bool → ℕ → List ℕ → List ℕ
shared_on n lane asks supply l = cond (asks || ltb supply (drawn_on n l)) (written n (shared_by n lane (drawn_on n l) supply l) l) l

unfoldable pub moved_cells : List ℕ → List ℕ → ℕ → List ℕ
moved_cells l block supply = cells_with (table_after (table_of l) (moved_at (table_of l) block) (tenths supply)) l

unfoldable pub moved_answer : List ℕ → List ℕ → ℕ → Closed
moved_answer l block supply = closed_ports (table_after (table_of l) (moved_at (table_of l) block) (tenths supply))
