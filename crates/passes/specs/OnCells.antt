-- The tick on a table that the caller lends.
use Rattle.std.specs.Prelude.{ℕ, List, Result}
use Rattle.sizes.specs.declared.refusals.Refusal.{Refusal}
use Rattle.table.specs.declared.form.Closed.{Closed}
use Rattle.table.specs.Parts.{Told}
use Rattle.cells.specs.Lent.{told_on}
use Rattle.passes.specs.Tick.{tick}

-- "13 first, in every call that takes a table. Tick: 1, 4, 3.": cells that are no table are refused with 13 before everything else
unfoldable pub tick_on : List ℕ → List ℕ → ℕ → Told (Result Closed Refusal)
tick_on l block figure = told_on l (λ t. tick t block figure)
