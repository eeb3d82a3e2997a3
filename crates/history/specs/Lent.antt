-- A history on lent cells: what each call leaves in them, and what a tick answers beside.
use Rattle.std.specs.Prelude.{ℕ, Bool, false, List, [], ◌∷◌, replicate, Result}
use Rattle.cells.specs.Cells.{cells_long}
use Rattle.cells.specs.Lent.{cells_told, cells_cold}
use Rattle.replies.specs.OnCells.{start_on, control_on, status_on, request_on}
use Rattle.passes.specs.OnCells.{tick_on}
use Rattle.sizes.specs.declared.refusals.Refusal.{Refusal}
use Rattle.table.specs.declared.form.Closed.{Closed}
use Rattle.ipaqsuni.specs.Outcome.{number_of}
use Rattle.ipaqsuni.specs.Calls.{mask_a_left, mask_b_left}
use Rattle.statements.specs.History.{Call, control, status, requested, ticked, accepted}
use Rattle.history.specs.declared.TickAnswer.{TickAnswer}

-- what a tick that comes to this answers through the C interface: its number, and what it leaves in two masks that were lent as 0
abbrev pub answer_of : Result Closed Refusal → TickAnswer
answer_of x = record { number = number_of x; a = mask_a_left x 0; b = mask_b_left x 0 }

-- the cells after a call, accepted or refused
unfoldable pub cells_after : List ℕ → Call → List ℕ
cells_after l (control p w) = cells_told (control_on l p w) l
cells_after l (status p) = cells_told (status_on l p) l
cells_after l (requested p v) = cells_told (request_on l p v) l
cells_after l (ticked block figure) = cells_told (tick_on l block figure) l

-- the call is a tick, and is accepted
unfoldable pub ran_on : List ℕ → Call → Bool
ran_on l (control p w) = false
ran_on l (status p) = false
ran_on l (requested p v) = false
ran_on l (ticked block figure) = accepted (tick_on l block figure).answer

-- cells of zeros, started cold
abbrev pub cells_started : ℕ → List ℕ
cells_started n = cells_cold (start_on (replicate cells_long 0) n) (replicate cells_long 0)

-- the cells that a history leaves; the latest call stands first
unfoldable pub cells_reached : ℕ → List Call → List ℕ
cells_reached n [] = cells_started n
cells_reached n (c ∷ h) = cells_after (cells_reached n h) c
