-- A table written into cells is what the cells then are.
-- Assumes nothing.
use mathlib.Core.Path.{◌≡◌, sym, ◌∙◌, ap}
use mathlib.Core.Bool.{true}
use mathlib.Core.List.{List}
use mathlib.Core.Logic.{⊎_elim}
use Prim.Native.Nat.{ℕ, ◌+◌, ◌*◌, ◌≤◌, ◌<◌}
use native.Mathlib.Nat.{le_refl}
use native.Mathlib.Omega.{arith}
use lib.Dec.{eqb}
use lib.ListN.{length, get_or, set, replicate, length-set, length-replicate}
use lib.Seq.{get_or-set_same, get_or-set_other}
use borrow.Author.Tests.{eq-eqb, eqb-true, lt-ltb, le-leb}
use Rattle.sizes.specs.Sizes.{most_ports}
use Rattle.lists.specs.Every.{every}
use Rattle.lists.proofs.Every.{every_of}
use Rattle.lists.proofs.Places.{side, tabulated}
use Rattle.lists.proofs.Tests.{and_left}
use Rattle.power.specs.Power.{tenths}
use Rattle.port.specs.declared.form.Port.{Port}
use Rattle.table.specs.Parts.{no_port, port_at}
use Rattle.table.specs.declared.form.Table.{Table}
use Rattle.cells.specs.Cells.{cells_long, count_cell, supply_cell, counts_of, port_of, table_of, port_holds, is_table, written, cells_with, cells_of}
use Rattle.cells.proofs.CodeLaws.{code_small, latches_small}
use Rattle.cells.specs.Codes.{state_of, latches_of}
use Rattle.cells.proofs.Laws.{written_long, written_head, written_field, port_written, port_past, table_at}

-- a port that was written has a state and latches that there are
pub holds_written : (n : ℕ) (f : ℕ → Port) (l : List ℕ) → n ≤ most_ports → 584 ≤ length l → (p : ℕ) → p < n → port_holds (written n f l) p ≡ true
unfolding port_holds
holds_written n f l few long p h =
    let a = written_field n f l few long p 0 h (omega arith) in
    let b = written_field n f l few long p 4 h (omega arith) in
    simp (a, b, le-leb _ _ (code_small (f p).state), lt-ltb _ _ (latches_small (f p).latches))

pub table_long : (l : List ℕ) → is_table l ≡ true → length l ≡ 728
unfolding is_table
table_long l e = eqb-true (length l) 728 (and_left (eqb (length l) 728) (every (count_cell l) (port_holds l)) e)

-- ---- cells that nothing was before

module _ (t : Table) where
  abbrev bare : List ℕ
  bare = set (replicate cells_long 0) 0 t.count

  abbrev base : List ℕ
  base = set bare 1 t.supply.0

  bare_long : length bare ≡ 728
  bare_long = length-set (replicate cells_long 0) 0 t.count ∙ length-replicate {A = ℕ} 728 0

  base_long : length base ≡ 728
  base_long = length-set bare 1 t.supply.0 ∙ bare_long

  pub cells_long_lem : length (cells_of t) ≡ 728
  unfolding cells_of
  cells_long_lem = written_long most_ports (port_at t) base ∙ base_long

  pub cells_count : count_cell (cells_of t) ≡ t.count
  unfolding cells_of
  cells_count =
      written_head most_ports (port_at t) base 0 (omega arith) (omega (arith, base_long))
      ∙ get_or-set_other bare 1 0 t.supply.0 0 (λ e. omega arith)
      ∙ get_or-set_same (replicate cells_long 0) 0 t.count 0 (omega (arith, length-replicate {A = ℕ} 728 0))

  pub cells_supply : supply_cell (cells_of t) ≡ t.supply.0
  unfolding cells_of
  cells_supply =
      written_head most_ports (port_at t) base 1 (omega arith) (omega (arith, base_long))
      ∙ get_or-set_same bare 1 t.supply.0 0 (omega (arith, bare_long))

  pub cells_port : (p : ℕ) → p < most_ports → port_of (cells_of t) p ≡ port_at t p
  unfolding cells_of
  cells_port p h = port_written most_ports (port_at t) base (le_refl most_ports) (omega (arith, base_long)) p h

  pub cells_holds : (p : ℕ) → p < most_ports → port_holds (cells_of t) p ≡ true
  unfolding cells_of
  cells_holds p h = holds_written most_ports (port_at t) base (le_refl most_ports) (omega (arith, base_long)) p h

  -- the cells of a table are that table
  pub cells_table : length t.ports ≡ most_ports → table_of (cells_of t) ≡ t
  unfolding table_of port_at
  cells_table long =
      let ports = tabulated most_ports (port_of (cells_of t)) no_port t.ports long (λ p h. sym (cells_port p h)) in
      λ k. record { ports = sym ports k; count = cells_count k; supply = ap tenths cells_supply k }

  pub cells_are : t.count ≤ most_ports → is_table (cells_of t) ≡ true
  unfolding is_table
  cells_are few =
      simp (eq-eqb _ _ cells_long_lem, every_of (count_cell (cells_of t)) (port_holds (cells_of t)) (λ p h. cells_holds p (omega (arith, cells_count))))

-- ---- cells that were a table of as many ports

module _ (t : Table) (l : List ℕ) (was : is_table l ≡ true) (ports : length t.ports ≡ most_ports) (same : t.count ≡ count_cell l) (few : t.count ≤ most_ports)
    (past : (p : ℕ) → t.count ≤ p → p < most_ports → port_at t p ≡ port_at (table_of l) p) where
  abbrev under : List ℕ
  under = set l 1 t.supply.0

  under_long : length under ≡ 728
  under_long = length-set l 1 t.supply.0 ∙ table_long l was

  pub with_long : length (cells_with t l) ≡ 728
  unfolding cells_with
  with_long = written_long t.count (port_at t) under ∙ under_long

  pub with_count : count_cell (cells_with t l) ≡ t.count
  unfolding cells_with
  with_count =
      written_head t.count (port_at t) under 0 (omega arith) (omega (arith, under_long))
      ∙ get_or-set_other l 1 0 t.supply.0 0 (λ e. omega arith)
      ∙ sym same

  pub with_supply : supply_cell (cells_with t l) ≡ t.supply.0
  unfolding cells_with
  with_supply =
      written_head t.count (port_at t) under 1 (omega arith) (omega (arith, under_long))
      ∙ get_or-set_same l 1 t.supply.0 0 (omega (arith, table_long l was))

  under_field : (g p : ℕ) → get_or under (8 + most_ports * g + p) 0 ≡ get_or l (8 + most_ports * g + p) 0
  under_field g p = get_or-set_other l 1 (8 + most_ports * g + p) t.supply.0 0 (λ e. omega arith)

  under_port : (p : ℕ) → port_of under p ≡ port_of l p
  unfolding port_of counts_of
  under_port p =
      λ k.
      record {
        state = ap state_of (under_field 0 p) k;
        class = under_field 3 p k;
        control = under_field 1 p k;
        demand = ap tenths (under_field 2 p) k;
        latches = ap latches_of (under_field 4 p) k;
        counts =
            record {
              detection = under_field 5 p k;
              backoff = under_field 6 p k;
              error_delay = under_field 7 p k;
              power_on = under_field 8 p k;
              limiting = under_field 9 p k;
              overload = under_field 10 p k;
              no_load = under_field 11 p k;
            };
      }

  pub with_port_lem : (p : ℕ) → p < most_ports → port_of (cells_with t l) p ≡ port_at t p
  unfolding cells_with
  with_port_lem p h =
      ⊎_elim
      (λ (x : p < t.count). port_written t.count (port_at t) under few (omega (arith, under_long)) p x)
      (λ (x : t.count ≤ p).
      port_past t.count (port_at t) under few (omega (arith, under_long)) p x h
      ∙ under_port p
      ∙ sym (past p x h ∙ table_at l p h))
      (side p t.count)

  -- the cells that a call leaves are its table
  pub with_table : table_of (cells_with t l) ≡ t
  unfolding table_of port_at
  with_table =
      let all = tabulated most_ports (port_of (cells_with t l)) no_port t.ports ports (λ p h. sym (with_port_lem p h)) in
      λ k. record { ports = sym all k; count = with_count k; supply = ap tenths with_supply k }

  pub with_holds : (p : ℕ) → p < t.count → port_holds (cells_with t l) p ≡ true
  unfolding cells_with
  with_holds p h = holds_written t.count (port_at t) under few (omega (arith, under_long)) p h

  pub with_are : is_table (cells_with t l) ≡ true
  unfolding is_table
  with_are =
      simp (eq-eqb _ _ with_long, every_of (count_cell (cells_with t l)) (port_holds (cells_with t l)) (λ p h. with_holds p (omega (arith, with_count))))
