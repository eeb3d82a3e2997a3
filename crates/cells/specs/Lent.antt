-- What a call on lent cells comes to, and what it leaves in them.
use Rattle.std.specs.Prelude.{ℕ, cond, List, eqb, length, Result, Ok, Err}
use Rattle.sizes.specs.declared.refusals.Refusal.{Refusal}
use Rattle.table.specs.declared.form.Table.{Table}
use Rattle.table.specs.Parts.{Told, refuse}
use Rattle.cells.specs.Cells.{cells_long, is_table, table_of, cells_with, cells_of}

-- a cold start looks at nothing that the cells hold, only at how many they are
abbrev pub cold_on : List ℕ → Told (Result Unit Refusal) → Told (Result Unit Refusal)
cold_on l cold = cond (eqb (length l) cells_long) cold (refuse 13 (table_of l))

module _ {A : Type 0} where
  -- "13 first, in every call that takes a table": cells that are no table are refused with it before everything else
  abbrev pub told_on : List ℕ → (Table → Told (Result A Refusal)) → Told (Result A Refusal)
  told_on l call = cond (is_table l) (call (table_of l)) (refuse 13 (table_of l))

  -- "The table comes back unchanged; no lent byte is written." of a refusal; and what an accepted call leaves is its table
  abbrev left : (Table → List ℕ) → Result A Refusal → Table → List ℕ → List ℕ
  left leaves (Ok answer) t l = leaves t
  left leaves (Err refusal) t l = l

  -- the cells after a call that told so much, where they were l
  unfoldable pub cells_told : Told (Result A Refusal) → List ℕ → List ℕ
  cells_told told l = left (λ t. cells_with t l) told.answer told.table l

  -- and after a cold start, which leaves nothing of them
  unfoldable pub cells_cold : Told (Result A Refusal) → List ℕ → List ℕ
  cells_cold told l = left cells_of told.answer told.table l
