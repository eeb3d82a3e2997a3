-- One cell set: the port of that place has then another field, and all else is as it was.
-- Assumes nothing.
use mathlib.Core.Path.{◌≡◌, sym, ◌∙◌, ap}
use mathlib.Core.List.{List, [], ◌∷◌}
use mathlib.Core.Logic.{⊎_elim}
use Prim.Native.Nat.{ℕ, ◌+◌, ◌*◌, ◌≤◌, ◌<◌}
use native.Mathlib.Omega.{arith}
use lib.ListN.{length, get_or, set}
use lib.Seq.{get_or-set_same, get_or-set_other, set-get_or}
use Rattle.sizes.specs.Sizes.{most_ports}
use Rattle.lists.specs.Places.{tabulate}
use Rattle.lists.proofs.Places.{length_tabulate}
use Rattle.port.specs.declared.form.Port.{Port}
use Rattle.table.specs.Parts.{no_port, port_at, with_port}
use Rattle.cells.specs.Cells.{cells_long, count_cell, port_of, table_of, fields_of, written, cells_with}
use Rattle.cells.specs.Holds.{Holds}
use Rattle.cells.proofs.Laws.{written_self, writes_written, table_at}
use Rattle.cells.specs.Writes.{writes}

-- the places of the table that cells are, with another port at one
pub with_port_same : (l : List ℕ) (p : ℕ) (x : Port) → p < most_ports → port_at (with_port p x (table_of l)) p ≡ x
unfolding port_at with_port table_of
with_port_same l p x h = get_or-set_same (tabulate most_ports (port_of l)) p x no_port (omega (arith, length_tabulate most_ports (port_of l)))

pub with_port_other : (l : List ℕ) (p : ℕ) (x : Port) (q : ℕ) → (q ≡ p → ⊥) → q < most_ports → port_at (with_port p x (table_of l)) q ≡ port_of l q
unfolding port_at with_port table_of
with_port_other l p x q apart h = get_or-set_other (tabulate most_ports (port_of l)) p q x no_port apart ∙ table_at l q h

-- the supply of the table that cells are is written as it was
pub with_port_cells_lem : (l : List ℕ) (p : ℕ) (x : Port) → cells_with (with_port p x (table_of l)) l ≡ written (count_cell l) (port_at (with_port p x (table_of l))) l
unfolding cells_with with_port table_of
with_port_cells_lem l p x = ap (written (count_cell l) (port_at (with_port p x (table_of l)))) (set-get_or l 1 0)

module _ (l : List ℕ) (long : length l ≡ cells_long) (few : count_cell l ≤ most_ports) (holds : Holds (count_cell l) l) where
  -- field g of the port at place p becomes v
  pub single : (p g v : ℕ) (x : Port) → p < count_cell l → g < 12 → fields_of x ≡ set (fields_of (port_at (table_of l) p)) g v → set l (8 + most_ports * g + p) v ≡ cells_with (with_port p x (table_of l)) l
  unfolding writes
  single p g v x hp hg is =
      ap (λ (m : List ℕ). set m (8 + most_ports * g + p) v) (written_self n l few (omega arith) holds)
      ∙ writes_written n (port_of l) after l (v ∷ []) g p few (omega arith) hp (omega arith)
      (λ j hj s.
      mine j ∙ get_or-set_other (fields_of (port_at (table_of l) p)) g j v 0 (λ e. ⊎_elim (λ (a : j < g). omega arith) (λ (a : g + 1 ≤ j). omega arith) s)
      ∙ ap (λ (y : Port). get_or (fields_of y) j 0) (table_at l p (omega arith)))
      (λ j hj.
      let e : g + j ≡ g = omega arith in
      let z : 0 ≡ j = omega arith in
      ap (λ (k : ℕ). get_or (fields_of (after p)) k 0) e ∙ mine g ∙ get_or-set_same (fields_of (port_at (table_of l) p)) g v 0 hg
      ∙ ap (λ (k : ℕ). get_or (v ∷ []) k 0) z)
      (λ q hq apart. with_port_other l p x q apart (omega arith))
      ∙ sym (with_port_cells_lem l p x)
    where
      n : ℕ
      n = count_cell l

      after : ℕ → Port
      after = port_at (with_port p x (table_of l))

      mine : (j : ℕ) → get_or (fields_of (after p)) j 0 ≡ get_or (set (fields_of (port_at (table_of l) p)) g v) j 0
      mine j = ap (λ (y : Port). get_or (fields_of y) j 0) (with_port_same l p x (omega arith)) ∙ ap (λ (m : List ℕ). get_or m j 0) is
