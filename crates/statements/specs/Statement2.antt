-- The second statement. "Each port moves as the diagram rules of document 01 say, tick by tick: signature, class, timers, faults, and the
-- rule by which the supply is shared. Power TLVs of IEEE 802.3 are read as the standard lays them out, and what is written reads back as
-- the same fields."
-- Assumes nothing.
use Rattle.std.specs.Prelude.{ℕ, ◌+◌, ◌*◌, ◌≤◌, ◌<◌, ◌≡◌, Bool, true, false, ◌&&◌, List, Result, Ok}
use Rattle.sizes.specs.Sizes.{most_ports, sample_bytes}
use Rattle.sizes.specs.declared.refusals.Refusal.{Refusal}
use Rattle.lists.specs.Bits.{bit}
use Rattle.lists.specs.Count.{count}
use Rattle.power.specs.Power.{tenths, forced}
use Rattle.sample.specs.Sample.{sample_at}
use Rattle.control.specs.Control.{pair_of}
use Rattle.port.specs.States.{closed, in_test}
use Rattle.port.specs.Entry.{enter}
use Rattle.port.specs.Changes.{latching, latch_denied}
use Rattle.settling.specs.Settle.{rank, granted, settled}
use Rattle.diagram.specs.Step.{step}
use Rattle.port.specs.declared.form.Moved.{Moved}
use Rattle.port.specs.declared.form.State.TheVariants.{Idle, TestError}
use Rattle.share.specs.Share.{claims, before, keeps, kept_sum}
use Rattle.share.specs.Walk.{walked, is_in}
use Rattle.status.specs.Status.{join}
use Rattle.block.specs.Digest.{digest}
use Rattle.table.specs.Parts.{port_at}
use Rattle.boards.specs.Sharing.{rank_at, claim_at, kept_at, latched_at}
use Rattle.boards.specs.Masks.{names_a, names_b, mask_a, mask_b}
use Rattle.table.specs.Drawn.{closed_at}
use Rattle.passes.specs.Tick.{moved_at, tick}
use Rattle.table.specs.declared.form.Closed.{Closed}
use Rattle.table.specs.declared.form.Table.{Table}
use Rattle.tlv.specs.Laws.{WrittenReads, ReadRewrites, FoundPower, TakenPower}
use Rattle.statements.specs.History.{accepted}

-- a port's own move on its own sample
abbrev pub moves : Table → List ℕ → ℕ → Moved
moves t block p = step forced (port_at t p) (digest (sample_at block (sample_bytes * p)))

-- what an accepted tick makes of a table
pub record Ticks (t : Table) (block : List ℕ) (figure : ℕ) (after : Table) (answer : Result Closed Refusal) : Type 0 where
  -- each port below the count moves by the diagram on its own sample, and settles by whether its claim is kept
  pub moved : (p : ℕ) → p < t.count → port_at after p ≡ (settled (rank_at t (moved_at t block) p) (kept_at t (moved_at t block) (tenths figure) p) (moves t block p)).port
  -- its claim ranks by age, priority and number, and is kept while the sum of the demands down the ranking is at most the figure
  pub ranked : (p : ℕ) → p < t.count → rank_at t (moved_at t block) p ≡ rank (port_at t p).state (moves t block p)
  pub shared : (p : ℕ) → kept_at t (moved_at t block) (tenths figure) p ≡ keeps most_ports (rank_at t (moved_at t block)) (λ q. (claim_at t (moved_at t block) q).0) figure p
  -- which is what the walk down the ranking keeps: "Going down the ranking, claims are kept while the sum of demands is at most the supply."
  pub walked_down : (p : ℕ) → p < most_ports → kept_at t (moved_at t block) (tenths figure) p ≡ is_in p (walked most_ports (rank_at t (moved_at t block)) (λ q. (claim_at t (moved_at t block) q).0) figure)
  pub claimed : (p : ℕ) → p < t.count → claim_at t (moved_at t block) p ≡ (moves t block p).port.demand
  pub unclaimed : (p : ℕ) → t.count ≤ p → rank_at t (moved_at t block) p ≡ 6
  -- "The first that doesn't fit and all after it are shed, smaller ones too."
  pub sheds : (q p : ℕ) → claims (rank_at t (moved_at t block)) q ≡ true → kept_at t (moved_at t block) (tenths figure) q ≡ false → before (rank_at t (moved_at t block)) q p ≡ true
      → kept_at t (moved_at t block) (tenths figure) p ≡ false
  -- what is kept fits, and is the longest first part of the ranking that does: with the first that is shed it is over the figure
  pub fits : kept_sum most_ports (rank_at t (moved_at t block)) (λ q. (claim_at t (moved_at t block) q).0) figure ≤ figure
  pub no_longer : (q : ℕ) → q < most_ports → claims (rank_at t (moved_at t block)) q ≡ true → kept_at t (moved_at t block) (tenths figure) q ≡ false
      → ((r : ℕ) → r < most_ports → claims (rank_at t (moved_at t block)) r ≡ true → before (rank_at t (moved_at t block)) r q ≡ true → kept_at t (moved_at t block) (tenths figure) r ≡ true)
      → figure < kept_sum most_ports (rank_at t (moved_at t block)) (λ r. (claim_at t (moved_at t block) r).0) figure + (claim_at t (moved_at t block) q).0
  -- a port's latches are those that it had and those of this tick: of its move, or 12 where it was shed
  pub latched : (p : ℕ) → p < t.count → (port_at after p).latches ≡ join (port_at t p).latches (latched_at t (moved_at t block) (tenths figure) p)
  -- places past the count stay as they were
  pub past : (p : ℕ) → p < most_ports → t.count ≤ p → port_at after p ≡ port_at t p
  pub same_count : after.count ≡ t.count
  -- "The figure is then stored."
  pub stored : after.supply ≡ tenths figure
  -- "bit p set exactly if port p is closed and its control word names that alternative", and the number is that of the closed ports
  pub answers : answer ≡ Ok (record { a = mask_a after; b = mask_b after; number = count most_ports (closed_at after) })
  pub bit_a : (p : ℕ) → p < most_ports → bit p (mask_a after) ≡ (closed_at after p && names_a (pair_of (port_at after p).control))
  pub bit_b : (p : ℕ) → p < most_ports → bit p (mask_b after) ≡ (closed_at after p && names_b (pair_of (port_at after p).control))
  -- no bit stands past the table's places
  pub no_bit_a : (p : ℕ) → most_ports ≤ p → bit p (mask_a after) ≡ false
  pub no_bit_b : (p : ℕ) → most_ports ≤ p → bit p (mask_b after) ≡ false

-- what the sharing does to a port that has moved, case by case; ranks below 6 are claims
pub record Settles (rank : ℕ) (m : Moved) : Type 0 where
  -- "An asker kept enters its state; one shed goes to IDLE."
  pub kept_asker : rank < 6 → m.asks ≡ true → (settled rank true m).port ≡ granted m.port.state m.port
  pub shed_asker : rank < 6 → m.asks ≡ true → in_test m.port.state ≡ false → settled rank false m ≡ latching latch_denied (enter Idle m.port)
  -- "A closed port shed goes to IDLE, or from TEST_MODE to TEST_ERROR."; kept, it stays
  pub kept_closed : rank < 6 → m.asks ≡ false → (settled rank true m).port ≡ m.port
  pub shed_closed : rank < 6 → closed m.port.state ≡ true → in_test m.port.state ≡ false → settled rank false m ≡ latching latch_denied (enter Idle m.port)
  pub shed_in_test : rank < 6 → in_test m.port.state ≡ true → settled rank false m ≡ latching latch_denied (enter TestError m.port)
  -- a port that claims nothing is as its move left it
  pub without_claim : (kept : Bool) → 6 ≤ rank → (settled rank kept m).port ≡ m.port

pub record Second : Type 0 where
  pub ticks : (t : Table) (block : List ℕ) (figure : ℕ) → accepted (tick t block figure).answer ≡ true → Ticks t block figure (tick t block figure).table (tick t block figure).answer
  pub settles : (rank : ℕ) (m : Moved) → Settles rank m
  -- "Whatever is written reads back as written; bytes that read, with 3:2 zero, are rewritten the same."
  pub reads_back : WrittenReads
  pub rewrites : ReadRewrites
  -- the search hands back one whole power TLV, which starts at a boundary of the walk; the reader takes one whole power TLV alone
  pub finds : FoundPower
  pub takes : TakenPower
