-- The calls of `Calls` on cells that the caller lends. What each leaves in the cells is `cells_told` or `cells_cold` of it.
use Rattle.std.specs.Prelude.{ℕ, List, Result}
use Rattle.sizes.specs.declared.refusals.Refusal.{Refusal}
use Rattle.table.specs.Parts.{Told}
use Rattle.cells.specs.Lent.{told_on, cold_on}
use Rattle.replies.specs.Calls.{cold_start, write_control, read_status, request}

-- "A cold start gives every port DISABLED, control 0x0004, no latch, zero counters, class and demand 0, stored supply 0."
unfoldable pub start_on : List ℕ → ℕ → Told (Result Unit Refusal)
start_on l n = cold_on l (cold_start n)

-- "13 first, in every call that takes a table."; "Control word: 2, 3, 5."
unfoldable pub control_on : List ℕ → ℕ → ℕ → Told (Result Unit Refusal)
control_on l p w = told_on l (λ t. write_control t p w)

-- "Reading the status returns the word and clears that port's six latches, no more."; request [7]: "both clear on a status read with the other six"
unfoldable pub status_on : List ℕ → ℕ → Told (Result ℕ Refusal)
status_on l p = told_on l (λ t. read_status t p)

-- "Accepted, it becomes the port's demand; nothing else changes."
unfoldable pub request_on : List ℕ → ℕ → ℕ → Told (Result Unit Refusal)
request_on l p v = told_on l (λ t. request t p v)
