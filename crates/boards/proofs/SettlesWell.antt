-- Well-made tables stay well-made, over any move whose ports are well-made: no tick makes an ill-made one.
-- Assumes nothing.
use Prim.Native.Nat.{ℕ, ◌<◌}
use mathlib.Core.Path.{◌≡◌}
use mathlib.Core.Bool.{Bool, true, cond}
use native.Mathlib.Omega.{arith}
use lib.Dec.{leb}
use Rattle.lists.proofs.Tests.{choice}
use Rattle.power.specs.Power.{at_most, highest_supply}
use Rattle.power.specs.declared.Power.{Power}
use Rattle.port.specs.Entry.{enter}
use Rattle.port.specs.Changes.{quietly}
use Rattle.port.specs.States.{in_test}
use Rattle.port.specs.declared.form.Moved.{Moved}
use Rattle.port.specs.declared.form.Port.{Port}
use Rattle.port.specs.declared.form.State.{State}
use Rattle.port.specs.declared.form.State.TheVariants.{Disabled, Idle, Detecting, Backoff, Classifying, PowerUp, PowerOn, ErrorDelay, TestMode, TestError}
use Rattle.settling.specs.Settle.{granted, shed, settled}
use Rattle.share.specs.Share.{no_claim}
use Rattle.table.proofs.Laws.{well_count}
use Rattle.table.proofs.WellMadePorts.{Well, with_latches_well, enter_well, table_of, table_test}
use Rattle.table.specs.WellMade.{well_made}
use Rattle.table.specs.declared.form.Table.{Table}
use Rattle.boards.proofs.Laws.{port_here}
use Rattle.boards.specs.Sharing.{rank_at, kept_at, settled_at, table_after}

-- what these laws ask of a board's move: its ports are well-made
abbrev pub Wells : Table → (ℕ → Moved) → Type 0
Wells t moved = (p : ℕ) → p < t.count → Well (moved p).port

granted_well : (s : State) (p : Port) → Well p → Well (granted s p)
unfolding granted
granted_well Disabled p w = w
granted_well Idle p w = enter_well TestMode p w
granted_well Detecting p w = w
granted_well Backoff p w = w
granted_well Classifying p w = enter_well PowerUp p w
granted_well PowerUp p w = w
granted_well PowerOn p w = w
granted_well ErrorDelay p w = w
granted_well TestMode p w = w
granted_well TestError p w = w

shed_well : (p : Port) → Well p → Well (shed p).port
unfolding shed
shed_well p w =
    with_latches_well _ (cond (in_test p.state) (enter TestError p) (enter Idle p))
    (choice Well (in_test p.state) (enter TestError p) (enter Idle p) (enter_well TestError p w) (enter_well Idle p w))

settled_well : (r : ℕ) (kept : Bool) (m : Moved) → Well m.port → Well (settled r kept m).port
unfolding settled
settled_well r kept m w =
    choice (λ (x : Moved). Well x.port) (leb no_claim r) (quietly m.port) _ w
    (choice (λ (x : Moved). Well x.port) kept _ (shed m.port)
    (choice Well m.asks (granted m.port.state m.port) m.port (granted_well m.port.state m.port w) w)
    (shed_well m.port w))

pub after_well : (t : Table) (moved : ℕ → Moved) (supply : Power) → Wells t moved → well_made t ≡ true → at_most supply highest_supply ≡ true → well_made (table_after t moved supply) ≡ true
unfolding table_after settled_at
after_well t moved supply wells e s =
    let w = table_of t e in
    table_test (table_after t moved supply)
    (record {
      some_ports = w.some_ports;
      few_ports = w.few_ports;
      supply = s;
      ports = λ p l.
          rw (port_here t moved supply p (omega (arith, well_count t e)) l)
          (settled_well (rank_at t moved p) (kept_at t moved supply p) (moved p) (wells p l));
    })
