-- What is proved of specs/OtherBoard.
-- Assumes nothing.
use Prim.Native.Nat.{ℕ, ◌≤◌}
use mathlib.Core.Path.{◌≡◌, refl}
use mathlib.Core.Bool.{true, false}
use mathlib.Core.List.{List}
use lib.Dec.{eqb}
use lib.ListN.{get_or}
use Rattle.lists.specs.Entries.{some}
use Rattle.lists.proofs.Tests.{choice}
use Rattle.power.specs.Power.{at_most, highest_supply}
use Rattle.power.specs.declared.Power.{Power}
use Rattle.status.proofs.Laws.{join_none}
use Rattle.status.specs.Status.{join}
use Rattle.class.specs.Class.{is_demand}
use Rattle.port.specs.Entry.{enter}
use Rattle.port.specs.States.{closed}
use Rattle.port.specs.declared.form.Moved.{Moved}
use Rattle.port.specs.declared.form.Port.{Port}
use Rattle.port.specs.declared.form.State.TheVariants.{Idle}
use Rattle.boards.proofs.Laws.{Opens, Tells, more_closes, closed_fits, latches_after}
use Rattle.boards.proofs.MaskLaws.{closed_number_lem}
use Rattle.boards.specs.Sharing.{table_after}
use Rattle.boards.proofs.SettlesWell.{Wells, after_well}
use Rattle.table.specs.Parts.{port_at}
use Rattle.table.proofs.Laws.{well_count}
use Rattle.table.proofs.WellMadePorts.{Well, enter_well, table_of}
use Rattle.table.specs.WellMade.{well_made}
use Rattle.table.specs.declared.form.Table.{Table}
use Rattle.statements.specs.OtherBoard.{pulled, pulled_at, Shared}

module _ (lever : ℕ) (p : Port) where
  pulled_open : closed p.state ≡ false → closed (pulled lever p).port.state ≡ false
  unfolding pulled enter
  pulled_open e =
      choice (λ (m : Moved). closed m.port.state ≡ false) (eqb lever 0) _ _ refl
      (choice (λ (m : Moved). closed m.port.state ≡ false) (closed p.state) _ _ e e)

  pulled_well : Well p → Well (pulled lever p).port
  unfolding pulled is_demand some
  pulled_well w =
      choice (λ (m : Moved). Well m.port) (eqb lever 0) _ _ (enter_well Idle p w)
      (choice (λ (m : Moved). Well m.port) (closed p.state) _ _ w (record { counts = w.counts; class = w.class; control = w.control; demand = refl }))

  pulled_told : (pulled lever p).port.latches ≡ join p.latches (pulled lever p).latched
  unfolding pulled enter
  pulled_told =
      choice Replied (eqb lever 0) _ _ (join_none p.latches) (choice Replied (closed p.state) _ _ (join_none p.latches) (join_none p.latches))
    where
      Replied : Moved → Type 0
      Replied m = m.port.latches ≡ join p.latches m.latched

pub shared : (t : Table) (levers : List ℕ) (less more : Power) → well_made t ≡ true → less.0 ≤ more.0 → at_most more highest_supply ≡ true → Shared t levers less more
shared t levers less more w l h =
    let m = pulled_at t levers in
    let few = well_count t w in
    let opens : Opens t m = λ p b. pulled_open (get_or levers p 0) (port_at t p) in
    let wells : Wells t m = λ p b. pulled_well (get_or levers p 0) (port_at t p) ((table_of t w).ports p b) in
    let tells : Tells t m = λ p b. pulled_told (get_or levers p 0) (port_at t p) in
    let after = after_well t m more wells w h in
    record {
      closes_more = more_closes t m few less more l;
      fits = closed_fits t m few opens more;
      well = after;
      number = closed_number_lem (table_after t m more) after;
      latches = latches_after t m more few tells;
    }
