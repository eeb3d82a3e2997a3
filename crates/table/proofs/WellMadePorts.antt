-- Well-made ports and tables as facts, for whoever stands above the table; and that entering a state keeps a port well-made.
-- Assumes nothing.
use Prim.Native.Nat.{ℕ, ◌≤◌, ◌<◌}
use mathlib.Core.Path.{◌≡◌, refl}
use mathlib.Core.Bool.{Bool, true, false, not, ◌&&◌}
use native.Mathlib.Omega.{arith}
use lib.Dec.{leb}
use borrow.Author.Tests.{le-leb, leb-true, not-true}
use Rattle.sizes.specs.Sizes.{most_count, most_ports}
use Rattle.lists.specs.Every.{every}
use Rattle.lists.proofs.Every.{every_of}
use Rattle.lists.specs.Entries.{some}
use Rattle.lists.proofs.Tests.{choice}
use Rattle.lists.proofs.Tests.{and_left, and_right}
use Rattle.power.specs.Power.{at_most, highest_supply}
use Rattle.power.specs.declared.Power.{Power}
use Rattle.class.specs.Class.{is_demand}
use Rattle.control.specs.Control.{refused}
use Rattle.status.specs.declared.Latches.{Latches}
use Rattle.port.specs.Entry.{up, during, counts_on_entry, demand_on_entry, enter}
use Rattle.port.specs.Changes.{with_latches, with_counts}
use Rattle.port.specs.declared.form.Counts.{Counts}
use Rattle.port.specs.declared.form.Port.{Port}
use Rattle.port.specs.declared.form.State.{State}
use Rattle.port.specs.declared.form.State.TheVariants.{Disabled, Idle, Detecting, Backoff, Classifying, PowerUp, PowerOn, ErrorDelay, TestMode, TestError}
use Rattle.table.specs.declared.form.Table.{Table}
use Rattle.table.specs.Parts.{port_at}
use Rattle.table.specs.Head.{well_counts}
use Rattle.table.proofs.Head.{well_port_is, well_made_is}
use Rattle.table.proofs.Laws.{well_at}
use Rattle.table.specs.WellMade.{well_port, well_made}

pub record WellCounts (c : Counts) : Type 0 where
  pub detection : c.detection ≤ most_count
  pub backoff : c.backoff ≤ most_count
  pub error_delay : c.error_delay ≤ most_count
  pub power_on : c.power_on ≤ most_count
  pub limiting : c.limiting ≤ most_count
  pub overload : c.overload ≤ most_count
  pub no_load : c.no_load ≤ most_count

pub record Well (p : Port) : Type 0 where
  pub counts : WellCounts p.counts
  pub class : p.class ≤ 4
  pub control : refused p.control ≡ false
  pub demand : is_demand p.demand ≡ true

-- a conjunction of tests, taken apart
split : (a b : Bool) → (a && b) ≡ true → (a ≡ true) × (b ≡ true)
split a b e = (and_left a b e, and_right a b e)

-- the test and the facts say the same
counts_of_lem : (c : Counts) → well_counts c ≡ true → WellCounts c
unfolding well_counts
counts_of_lem c e =
    let t : ℕ → Bool = λ n. leb n most_count in
    let g6 = t c.no_load in
    let g5 = t c.overload && g6 in
    let g4 = t c.limiting && g5 in
    let g3 = t c.power_on && g4 in
    let g2 = t c.error_delay && g3 in
    let g1 = t c.backoff && g2 in
    let e1 = split (t c.detection) g1 e in
    let e2 = split (t c.backoff) g2 e1.1 in
    let e3 = split (t c.error_delay) g3 e2.1 in
    let e4 = split (t c.power_on) g4 e3.1 in
    let e5 = split (t c.limiting) g5 e4.1 in
    let e6 = split (t c.overload) g6 e5.1 in
    record {
      detection = leb-true c.detection most_count e1.0;
      backoff = leb-true c.backoff most_count e2.0;
      error_delay = leb-true c.error_delay most_count e3.0;
      power_on = leb-true c.power_on most_count e4.0;
      limiting = leb-true c.limiting most_count e5.0;
      overload = leb-true c.overload most_count e6.0;
      no_load = leb-true c.no_load most_count e6.1;
    }

counts_test : (c : Counts) → WellCounts c → well_counts c ≡ true
unfolding well_counts
counts_test c w =
    simp (
      le-leb c.detection most_count w.detection,
      le-leb c.backoff most_count w.backoff,
      le-leb c.error_delay most_count w.error_delay,
      le-leb c.power_on most_count w.power_on,
      le-leb c.limiting most_count w.limiting,
      le-leb c.overload most_count w.overload,
      le-leb c.no_load most_count w.no_load,
    )

pub well_of : (p : Port) → well_port p ≡ true → Well p
well_of p well =
    let e = rw (well_port_is p) at well in
    let g2 = not (refused p.control) && is_demand p.demand in
    let g1 = leb p.class 4 && g2 in
    let e1 = split (well_counts p.counts) g1 e in
    let e2 = split (leb p.class 4) g2 e1.1 in
    let e3 = split (not (refused p.control)) (is_demand p.demand) e2.1 in
    record { counts = counts_of_lem p.counts e1.0; class = leb-true p.class 4 e2.0; control = not-true (refused p.control) e3.0; demand = e3.1 }

pub well_test : (p : Port) → Well p → well_port p ≡ true
well_test p w = simp (well_port_is, counts_test p.counts w.counts, le-leb p.class 4 w.class, w.control, w.demand)

-- a counter that has advanced is small enough, whatever it was
pub up_small : (n : ℕ) → up n ≤ most_count
unfolding up
up_small n = omega arith

pub during_small : (b : Bool) (n : ℕ) → during b n ≤ most_count
unfolding during
during_small b n = choice (λ (m : ℕ). m ≤ most_count) b (up n) 0 (up_small n) (omega arith)

-- new counters; and other latches, at which no test looks
pub with_counts_well : (c : Counts) (p : Port) → WellCounts c → Well p → Well (with_counts c p)
with_counts_well c p v w = record { counts = v; class = w.class; control = w.control; demand = w.demand }

pub with_latches_well : (l : Latches) (p : Port) → Well p → Well (with_latches l p)
with_latches_well l p w = record { counts = w.counts; class = w.class; control = w.control; demand = w.demand }

-- an entry sets some counters to 0, and the demand to 0 or not at all
entry_counts : (s : State) (c : Counts) → WellCounts c → WellCounts (counts_on_entry s c)
entry_counts Disabled c w = w
entry_counts Idle c w = w
entry_counts Detecting c w = omega arith
entry_counts Backoff c w = omega arith
entry_counts Classifying c w = omega arith
entry_counts PowerUp c w = omega arith
entry_counts PowerOn c w = omega arith
entry_counts ErrorDelay c w = omega arith
entry_counts TestMode c w = omega arith
entry_counts TestError c w = w

entry_demand : (s : State) (d : Power) → is_demand d ≡ true → is_demand (demand_on_entry s d) ≡ true
unfolding is_demand some
entry_demand Disabled d e = refl
entry_demand Idle d e = refl
entry_demand Detecting d e = e
entry_demand Backoff d e = e
entry_demand Classifying d e = e
entry_demand PowerUp d e = e
entry_demand PowerOn d e = e
entry_demand ErrorDelay d e = e
entry_demand TestMode d e = e
entry_demand TestError d e = e

pub enter_well : (s : State) (p : Port) → Well p → Well (enter s p)
unfolding enter
enter_well s p w = record { counts = entry_counts s p.counts w.counts; class = w.class; control = w.control; demand = entry_demand s p.demand w.demand }

-- the parts of a well-made table
pub record WellTable (t : Table) : Type 0 where
  pub some_ports : leb 1 t.count ≡ true
  pub few_ports : leb t.count most_ports ≡ true
  pub supply : at_most t.supply highest_supply ≡ true
  pub ports : (p : ℕ) → p < t.count → Well (port_at t p)

pub table_of : (t : Table) → well_made t ≡ true → WellTable t
table_of t well =
    let e = rw (well_made_is t) at well in
    let g3 = every t.count (λ p. well_port (port_at t p)) in
    let g2 = at_most t.supply highest_supply && g3 in
    let g1 = leb t.count most_ports && g2 in
    let e1 = and_right (leb 1 t.count) g1 e in
    let e2 = and_right (leb t.count most_ports) g2 e1 in
    record {
      some_ports = and_left (leb 1 t.count) g1 e;
      few_ports = and_left (leb t.count most_ports) g2 e1;
      supply = and_left (at_most t.supply highest_supply) g3 e2;
      ports = λ p l. well_of (port_at t p) (well_at t well p l);
    }

pub table_test : (t : Table) → WellTable t → well_made t ≡ true
table_test t w =
    let e : every t.count (λ p. well_port (port_at t p)) ≡ true = every_of t.count (λ p. well_port (port_at t p)) (λ p l. well_test (port_at t p) (w.ports p l)) in
    simp (well_made_is, w.some_ports, w.few_ports, w.supply, e)
