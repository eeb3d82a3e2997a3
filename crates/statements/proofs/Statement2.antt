-- What is proved of specs/Statement2.
-- Assumes nothing.
use Prim.Native.Nat.{ℕ, ◌+◌, ◌*◌, ◌≤◌, ◌<◌}
use mathlib.Core.Path.{◌≡◌, refl, sym, ◌∙◌, ap, subst}
use mathlib.Core.Bool.{Bool, true, false, false≢true}
use mathlib.Core.List.{List}
use mathlib.Core.Logic.{⊎_elim}
use native.Mathlib.Omega.{arith}
use borrow.Author.Tests.{lt-leb, le-leb}
use Rattle.std.specs.Prelude.{Result, Ok}
use Rattle.sizes.specs.Sizes.{most_ports, sample_bytes}
use Rattle.sizes.specs.declared.refusals.Refusal.{Refusal}
use Rattle.power.specs.Power.{tenths, forced}
use Rattle.sample.specs.Sample.{sample_at}
use Rattle.port.specs.States.{in_test}
use Rattle.port.specs.Entry.{enter}
use Rattle.port.specs.Changes.{latching, latch_denied}
use Rattle.settling.specs.Settle.{rank, granted, shed, settled}
use Rattle.port.specs.declared.form.Moved.{Moved}
use Rattle.port.specs.declared.form.State.TheVariants.{Idle, TestError}
use Rattle.share.proofs.Laws.{shed_after, kept_sum_fits, longest}
use Rattle.share.specs.Share.{claims, before, keeps, kept_sum}
use Rattle.share.specs.Walk.{walked, is_in}
use Rattle.share.proofs.WalkLaws.{walk_keeps}
use Rattle.outcomes.proofs.Latched.{latches_told}
use Rattle.block.specs.Digest.{digest}
use Rattle.table.specs.Parts.{Told, port_at}
use Rattle.boards.proofs.MaskLaws.{bits_a, bits_b, past_a, past_b, closed_number_lem}
use Rattle.statements.proofs.StaysWellMade.{tick_well}
use Rattle.table.proofs.Laws.{well_count}
use Rattle.boards.proofs.Laws.{Tells, count_after, supply_after, rank_here_lem, rank_past, claim_here, port_here, port_past, latches_after}
use Rattle.boards.specs.Sharing.{rank_at, claim_at, kept_at, settled_at, table_after}
use Rattle.boards.specs.Masks.{mask_a, mask_b, answered}
use Rattle.passes.specs.Tick.{moved_at, tick}
use Rattle.table.specs.WellMade.{well_made}
use Rattle.table.specs.declared.form.Closed.{Closed}
use Rattle.table.specs.declared.form.Table.{Table}
use Rattle.tlv.proofs.ReadRewrites.{read_rewrites}
use Rattle.tlv.proofs.WrittenReads.{written_reads}
use Rattle.tlv.proofs.Boundary.{found_power, taken_power}
use Rattle.statements.specs.History.{accepted}
use Rattle.statements.proofs.Reached.{Stopped, Ran, tick_told_lem, in_range}
use Rattle.statements.specs.Statement2.{moves, Ticks, Settles, Second}

module _ (t : Table) (block : List ℕ) (figure : ℕ) where
  abbrev m : ℕ → Moved
  m = moved_at t block

  rank_moves : (p : ℕ) → p < t.count → rank_at t m p ≡ rank (port_at t p).state (moves t block p)
  unfolding moved_at
  rank_moves p l = rank_here_lem t m p l

  claim_moves : (p : ℕ) → p < t.count → claim_at t m p ≡ (moves t block p).port.demand
  unfolding moved_at
  claim_moves p l = claim_here t m p l

  kept_so : (p : ℕ) → kept_at t m (tenths figure) p ≡ keeps most_ports (rank_at t m) (λ q. (claim_at t m q).0) figure p
  unfolding kept_at
  kept_so p = refl

  sheds_so : (q p : ℕ) → claims (rank_at t m) q ≡ true → kept_at t m (tenths figure) q ≡ false → before (rank_at t m) q p ≡ true → kept_at t m (tenths figure) p ≡ false
  unfolding kept_at
  sheds_so q p c k b = shed_after most_ports (rank_at t m) (λ r. (claim_at t m r).0) figure q p c k b

  no_longer_so : (q : ℕ) → q < most_ports → claims (rank_at t m) q ≡ true → kept_at t m (tenths figure) q ≡ false
      → ((r : ℕ) → r < most_ports → claims (rank_at t m) r ≡ true → before (rank_at t m) r q ≡ true → kept_at t m (tenths figure) r ≡ true)
      → figure < kept_sum most_ports (rank_at t m) (λ r. (claim_at t m r).0) figure + (claim_at t m q).0
  unfolding kept_at
  no_longer_so q l c k h = longest most_ports (rank_at t m) (λ r. (claim_at t m r).0) figure q l c k h

  walked_so : (p : ℕ) → p < most_ports → kept_at t m (tenths figure) p ≡ is_in p (walked most_ports (rank_at t m) (λ q. (claim_at t m q).0) figure)
  unfolding kept_at
  walked_so p l = walk_keeps most_ports (rank_at t m) (λ q. (claim_at t m q).0) figure p l

  tells : Tells t m
  unfolding moved_at
  tells p l = latches_told forced (port_at t p) (digest (sample_at block (sample_bytes * p)))

  port_moves : t.count ≤ most_ports → (p : ℕ) → p < t.count
      → port_at (table_after t m (tenths figure)) p ≡ (settled (rank_at t m p) (kept_at t m (tenths figure) p) (moves t block p)).port
  unfolding moved_at settled_at
  port_moves few p l = port_here t m (tenths figure) p (omega arith) l

module _ (rank : ℕ) (m : Moved) where
  to_idle : rank < 6 → in_test m.port.state ≡ false → settled rank false m ≡ latching latch_denied (enter Idle m.port)
  unfolding settled shed
  to_idle l e = simp (lt-leb 6 rank l, e)

  to_test_error : rank < 6 → in_test m.port.state ≡ true → settled rank false m ≡ latching latch_denied (enter TestError m.port)
  unfolding settled shed
  to_test_error l e = simp (lt-leb 6 rank l, e)

  enters : rank < 6 → m.asks ≡ true → (settled rank true m).port ≡ granted m.port.state m.port
  unfolding settled
  enters l e = simp (lt-leb 6 rank l, e)

  stays : rank < 6 → m.asks ≡ false → (settled rank true m).port ≡ m.port
  unfolding settled
  stays l e = simp (lt-leb 6 rank l, e)

  left_alone : (kept : Bool) → 6 ≤ rank → (settled rank kept m).port ≡ m.port
  unfolding settled
  left_alone kept l = simp (le-leb 6 rank l)

  settles_so : Settles rank m
  settles_so = record { kept_asker = enters; shed_asker = λ l a e. to_idle l e; kept_closed = stays; shed_closed = λ l c e. to_idle l e; shed_in_test = to_test_error; without_claim = left_alone }

answered_table : (u : Table) → (answered u).table ≡ u
unfolding answered
answered_table u = refl

-- what a tick that ran leaves
ran_ticks : (t : Table) (block : List ℕ) (figure : ℕ) → well_made t ≡ true → figure ≤ 60000
    → Ticks t block figure (table_after t (moved_at t block) (tenths figure)) (answered (table_after t (moved_at t block) (tenths figure))).answer
unfolding answered
ran_ticks t block figure m f =
    let u = table_after t (moved_at t block) (tenths figure) in
    let w = tick_well t block (tenths figure) m (in_range figure f) in
    let x = moved_at t block in
    record {
      moved = port_moves t block figure (well_count t m);
      ranked = rank_moves t block figure;
      shared = kept_so t block figure;
      walked_down = walked_so t block figure;
      claimed = claim_moves t block figure;
      unclaimed = rank_past t x;
      sheds = sheds_so t block figure;
      fits = kept_sum_fits most_ports (rank_at t x) (λ q. (claim_at t x q).0) figure;
      no_longer = no_longer_so t block figure;
      latched = latches_after t x (tenths figure) (well_count t m) (tells t block figure);
      past = port_past t x (tenths figure);
      same_count = count_after t x (tenths figure);
      stored = supply_after t x (tenths figure);
      answers = ap (λ (n : ℕ). Ok (record { a = mask_a u; b = mask_b u; number = n })) (closed_number_lem u w);
      bit_a = bits_a u;
      bit_b = bits_b u;
      no_bit_a = past_a u;
      no_bit_b = past_b u;
    }

ticks_so : (t : Table) (block : List ℕ) (figure : ℕ) → accepted (tick t block figure).answer ≡ true → Ticks t block figure (tick t block figure).table (tick t block figure).answer
ticks_so t block figure e =
    ⊎_elim
    (λ (x : Stopped t (tick t block figure)). absurd (false≢true (sym x.answer ∙ e)))
    (λ (x : Ran t block figure (tick t block figure)).
    subst (λ (r : Told (Result Closed Refusal)). Ticks t block figure r.table r.answer) (sym x.whole) (answered_ticks x.well x.figure_in_range))
    (tick_told_lem t block figure)
  where
    answered_ticks : well_made t ≡ true → figure ≤ 60000 → Ticks t block figure (answered (table_after t (moved_at t block) (tenths figure))).table (answered (table_after t (moved_at t block) (tenths figure))).answer
    answered_ticks m f = subst (λ (u : Table). Ticks t block figure u (answered (table_after t (moved_at t block) (tenths figure))).answer) (sym (answered_table (table_after t (moved_at t block) (tenths figure)))) (ran_ticks t block figure m f)

pub statement_2 : Second
statement_2 = record { ticks = ticks_so; settles = settles_so; reads_back = written_reads; rewrites = read_rewrites; finds = found_power; takes = taken_power }
