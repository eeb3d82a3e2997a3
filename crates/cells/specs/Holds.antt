-- What stands in cells into which ports were written, cell by cell and port by port.
-- Assumes nothing.
use Rattle.std.specs.Prelude.{◌≡◌, true, List, ℕ, ◌<◌}
use Rattle.cells.specs.Cells.{port_holds}

-- ---- the ports that the cells hold already

-- each port below n has a state and latches that there are
abbrev pub Holds : ℕ → List ℕ → Type 0
Holds n l = (p : ℕ) → p < n → port_holds l p ≡ true
