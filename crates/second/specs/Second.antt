-- The second demand, of what the program looks at after a tick that document 01 accepts.
-- Assumes nothing.
use Rattle.std.specs.Prelude.{ℕ, Bool, ◌&&◌, List, eqb, get_or, Result}
use Rattle.sizes.specs.declared.refusals.Refusal.{Refusal}
use Rattle.table.specs.declared.form.Closed.{Closed}
use Rattle.second.specs.Answers.{answer_right}
use Rattle.second.specs.Untouched.{rest_kept}

-- what is looked at: the answer, the figure's cell, and the rest
unfoldable pub tick_right : List ℕ → List ℕ → Result Closed Refusal → ℕ → Bool
tick_right l m x figure = (answer_right m x && eqb (get_or m 1 0) figure) && rest_kept l m
