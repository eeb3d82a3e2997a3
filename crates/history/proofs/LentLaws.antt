-- The cells that a history leaves are the table that it reaches; and a tick's number tells whether it is accepted.
-- Assumes nothing.
use Prim.Native.Nat.{ℕ, ◌≤◌}
use mathlib.Core.Path.{◌≡◌, refl, subst}
use mathlib.Core.Bool.{true}
use mathlib.Core.List.{List, [], ◌∷◌}
use lib.Dec.{eqb}
use lib.ListN.{replicate}
use native.Mathlib.Omega.{arith}
use borrow.Author.Tests.{ne_eqb, le-ltb}
use Rattle.lists.proofs.Ladder.{ladder_holds}
use Rattle.power.specs.Power.{tenths}
use Rattle.table.specs.Parts.{Told, done, refuse, tells}
use Rattle.table.specs.declared.form.Closed.{Closed}
use Rattle.table.specs.declared.form.Table.{Table}
use Rattle.cells.specs.Cells.{cells_long, table_of, is_table}
use Rattle.cells.specs.Lent.{cells_told, cells_cold}
use Rattle.boards.specs.Masks.{answered}
use Rattle.replies.specs.Calls.{cold_table, cold_start, control_refusals, write_control, status_refusals, status_at, read_status, request_refusals, request}
use Rattle.replies.specs.OnCells.{start_on, control_on, status_on, request_on}
use Rattle.passes.specs.OnCells.{tick_on}
use Rattle.passes.specs.Tick.{tick_refusals, tick}
use Rattle.interface.specs.Laws.{Are}
use Rattle.interface.proofs.Laws.{next_call, cold_are, with_port_are, after_are}
use Rattle.ipaqsuni.specs.Outcome.{number_of}
use Rattle.std.specs.Prelude.{Result, Ok, Err}
use Rattle.sizes.specs.Refused.{number}
use Rattle.sizes.proofs.Refused.{numbered}
use Rattle.sizes.specs.declared.refusals.Refusal.{Refusal}
use Rattle.statements.specs.History.{Call, control, status, requested, ticked, after, reached, accepted}
use Rattle.history.specs.Lent.{cells_after, cells_started, cells_reached}

-- ---- a call on cells that are a table

module _ (l : List ℕ) (is : is_table l ≡ true) where
  abbrev t : Table
  t = table_of l

  control_are : (p w : ℕ) → Are (write_control t p w).table (cells_told (write_control t p w) l)
  unfolding write_control tells refuse cells_told
  control_are p w =
      ladder_holds (λ (r : Told (Result Unit Refusal)). Are r.table (cells_told r l)) (λ k. refuse k t) _ (control_refusals t p w) (λ k. (is, refl)) (λ c. with_port_are l is c.0 p _ c.1.0)

  status_are : (p : ℕ) → Are (read_status t p).table (cells_told (read_status t p) l)
  unfolding read_status status_at tells refuse cells_told
  status_are p =
      ladder_holds (λ (r : Told (Result ℕ Refusal)). Are r.table (cells_told r l)) (λ k. refuse k t) _ (status_refusals t p) (λ k. (is, refl)) (λ c. with_port_are l is c.0 p _ c.1.0)

  request_are : (p v : ℕ) → Are (request t p v).table (cells_told (request t p v) l)
  unfolding request tells refuse cells_told
  request_are p v =
      ladder_holds (λ (r : Told (Result Unit Refusal)). Are r.table (cells_told r l)) (λ k. refuse k t) _ (request_refusals t p v) (λ k. (is, refl)) (λ c. with_port_are l is c.0 p _ c.1.0)

  tick_are : (block : List ℕ) (figure : ℕ) → Are (tick t block figure).table (cells_told (tick t block figure) l)
  unfolding tick answered tells refuse cells_told
  tick_are block figure =
      ladder_holds (λ (r : Told (Result Closed Refusal)). Are r.table (cells_told r l)) (λ k. refuse k t) _ (tick_refusals t block figure) (λ k. (is, refl)) (λ c. after_are l is c.0 block (tenths figure))

  here : Are t l
  here = (is, refl)

  call_are : (c : Call) → Are (after t c) (cells_after l c)
  unfolding after cells_after control_on status_on request_on tick_on
  call_are (control p w) = rw (next_call t l here (λ u. write_control u p w) _) (control_are p w)
  call_are (status p) = rw (next_call t l here (λ u. read_status u p) _) (status_are p)
  call_are (requested p v) = rw (next_call t l here (λ u. request u p v) _) (request_are p v)
  call_are (ticked block figure) = rw (next_call t l here (λ u. tick u block figure) _) (tick_are block figure)

pub after_call : (t : Table) (l : List ℕ) → Are t l → (c : Call) → Are (after t c) (cells_after l c)
after_call t l are c = subst (λ (u : Table). Are (after u c) (cells_after l c)) are.1 (call_are l are.0 c)

-- ---- from a cold start

cold_done : (n : ℕ) → 1 ≤ n → n ≤ 48 → cold_start n ≡ done (cold_table n)
unfolding cold_start
cold_done n a b = simp (ne_eqb n 0 (λ e. omega arith), le-ltb 48 n b)

start_done : (n : ℕ) → 1 ≤ n → n ≤ 48 → start_on (replicate cells_long 0) n ≡ done (cold_table n)
unfolding start_on
start_done n a b = cold_done n a b

started : (n : ℕ) → 1 ≤ n → n ≤ 48 → Are (cold_start n).table (cells_started n)
unfolding tells cells_cold
started n a b = rw (cold_done n a b) (rw (start_done n a b) (cold_are n b))

pub cells_reached_lem : (n : ℕ) → 1 ≤ n → n ≤ 48 → (h : List Call) → Are (reached n h) (cells_reached n h)
unfolding reached cells_reached
cells_reached_lem n a b [] = started n a b
cells_reached_lem n a b (c ∷ h) = after_call (reached n h) (cells_reached n h) (cells_reached_lem n a b h) c

-- a tick on them is a tick on it
pub tick_reached : (n : ℕ) → 1 ≤ n → n ≤ 48 → (h : List Call) (block : List ℕ) (figure : ℕ) → tick_on (cells_reached n h) block figure ≡ tick (reached n h) block figure
unfolding tick_on
tick_reached n a b h block figure = next_call (reached n h) (cells_reached n h) (cells_reached_lem n a b h) (λ u. tick u block figure) _

-- ---- by the number

by_number : (x : Result Closed Refusal) → eqb (number_of x) 0 ≡ accepted x
by_number (Ok x) = refl
by_number (Err k) = ne_eqb (number k) 0 (numbered k)

-- no refusal is numbered 0, so that a tick is accepted exactly where its number is
pub zero_accepted : (l block : List ℕ) (figure : ℕ) → eqb (number_of (tick_on l block figure).answer) 0 ≡ accepted (tick_on l block figure).answer
zero_accepted l block figure = by_number (tick_on l block figure).answer
