-- IDLE and TEST_MODE, by the code in a port's state cell.
-- Assumes nothing.
use Prim.Native.Nat.{ℕ, ◌+◌, ◌≤◌, ◌<◌}
use mathlib.Core.Path.{◌≡◌, refl, sym, ◌∙◌, ap}
use mathlib.Core.Bool.{Bool}
use mathlib.Core.List.{List}
use mathlib.Core.Logic.{⊎_elim}
use native.Mathlib.Omega.{arith}
use lib.Dec.{eqb}
use lib.ListN.{get_or}
use borrow.Author.Tests.{ne_eqb}
use Rattle.lists.specs.Places.{tabulate}
use Rattle.lists.proofs.Places.{side, tabulate_at}
use Rattle.port.specs.States.{is_idle, in_test}
use Rattle.port.specs.declared.form.Port.{Port}
use Rattle.port.specs.declared.form.State.{State}
use Rattle.port.specs.declared.form.State.TheVariants.{TestError}
use Rattle.table.specs.Parts.{port_at}
use Rattle.table.specs.declared.form.Table.{Table}
use Rattle.cells.specs.Cells.{port_of}
use Rattle.cells.specs.Codes.{state_of}
use Rattle.cells.proofs.Laws.{table_at}
use Rattle.interface.specs.Laws.{Are}

over_eight : (n : ℕ) → 9 ≤ n → state_of n ≡ TestError
over_eight n h =
    let no : (k : ℕ) → k < 9 → eqb n k ≡ _ = λ k l. ne_eqb n k (λ e. omega arith) in
    simp (no 0 (omega arith), no 1 (omega arith), no 2 (omega arith), no 3 (omega arith), no 4 (omega arith), no 5 (omega arith), no 6 (omega arith), no 7 (omega arith), no 8 (omega arith))

-- a test of the state is a test of its code: the checker computes both below 9
by_code : (f : State → Bool) (g : ℕ → Bool) → tabulate 9 (λ k. f (state_of k)) ≡ tabulate 9 g → ((n : ℕ) → 9 ≤ n → f TestError ≡ g n) → (n : ℕ) → f (state_of n) ≡ g n
by_code f g e past n = ⊎_elim (tabulate_at 9 (λ k. f (state_of k)) g e n) (λ (h : 9 ≤ n). ap f (over_eight n h) ∙ past n h) (side n 9)

idle_code : (n : ℕ) → is_idle (state_of n) ≡ eqb n 1
unfolding tabulate
idle_code = by_code is_idle (λ k. eqb k 1) refl (λ n h. sym (ne_eqb n 1 (λ e. omega arith)))

test_code : (n : ℕ) → in_test (state_of n) ≡ eqb n 8
unfolding tabulate
test_code = by_code in_test (λ k. eqb k 8) refl (λ n h. sym (ne_eqb n 8 (λ e. omega arith)))

-- of cells that are a table
module _ (t : Table) (l : List ℕ) (are : Are t l) (p : ℕ) (h : p < 48) where
  state_cell : (port_at t p).state ≡ state_of (get_or l (8 + p) 0)
  unfolding port_of
  state_cell = ap (λ (u : Table). (port_at u p).state) (sym are.1) ∙ ap (λ (x : Port). x.state) (table_at l p h)

  pub idle_cell : is_idle (port_at t p).state ≡ eqb (get_or l (8 + p) 0) 1
  idle_cell = ap is_idle state_cell ∙ idle_code (get_or l (8 + p) 0)

  pub test_cell : in_test (port_at t p).state ≡ eqb (get_or l (8 + p) 0) 8
  test_cell = ap in_test state_cell ∙ test_code (get_or l (8 + p) 0)

  pub demand_cell : (port_at t p).demand.0 ≡ get_or l (104 + p) 0
  unfolding port_of
  demand_cell = ap (λ (u : Table). (port_at u p).demand.0) (sym are.1) ∙ ap (λ (x : Port). x.demand.0) (table_at l p h)
