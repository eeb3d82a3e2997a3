-- Attacks on the third statement itself: it speaks of something, and the weaker or turned statements that could be mistaken for it are
-- not it. They are shown on one history: a cold start of one port, its enabling, two ticks to DETECTING, and a tick with a valid
-- signature; then the port gives class 1, with 15.4 W or with nothing to share.
-- Assumes nothing.
use Rattle.std.specs.Prelude.{ℕ, ◌≡◌, true, false, List, [], ◌∷◌}
use Rattle.table.specs.Drawn.{closed_sum, closed_at}
use Rattle.passes.specs.Tick.{tick}
use Rattle.table.specs.declared.form.Table.{Table}
use Rattle.statements.specs.History.{Call, control, ticked, reached, nothing, signature, both, shown}

-- no flag; a valid signature; class 1
unfoldable pub quiet : List ℕ
quiet = 0 ∷ 0 ∷ 0 ∷ 0 ∷ 0 ∷ 0 ∷ 0 ∷ 0 ∷ 0 ∷ 0 ∷ 0 ∷ 0 ∷ 0 ∷ 0 ∷ []

-- V1 4,000, V2 6,500, I1 100, I2 200
unfoldable pub signs : List ℕ
signs = 15 ∷ 160 ∷ 25 ∷ 100 ∷ 0 ∷ 100 ∷ 0 ∷ 200 ∷ 0 ∷ 0 ∷ 0 ∷ 0 ∷ 0 ∷ 1 ∷ []

unfoldable pub gives : List ℕ
gives = 0 ∷ 0 ∷ 0 ∷ 0 ∷ 0 ∷ 0 ∷ 0 ∷ 0 ∷ 39 ∷ 16 ∷ 0 ∷ 0 ∷ 0 ∷ 2 ∷ []

unfoldable pub signed : List Call
signed = ticked signs 154 ∷ ticked quiet 154 ∷ ticked quiet 154 ∷ control 0 0x0005 ∷ []

-- the table after the last tick, under a figure
abbrev pub under : ℕ → Table
under figure = (tick (reached 1 signed) gives figure).table

pub record Facts : Type 0 where
  -- the statement is not empty: this history closes the port, which has shown both
  pub waits : shown 1 0 signed ≡ signature
  pub closes : closed_at (under 154) 0 ≡ true
  pub shows_both : shown 1 0 (ticked gives 154 ∷ signed) ≡ both
  pub adds_up : closed_sum (under 154) ≡ 40
  -- a tick that shows nothing forgets nothing
  pub remembers : shown 1 0 (ticked quiet 154 ∷ signed) ≡ signature
  -- with nothing to share the port goes back to IDLE, and what it showed before counts no more
  pub opens : closed_at (under 0) 0 ≡ false
  pub forgets : shown 1 0 (ticked gives 0 ∷ signed) ≡ nothing
  -- a sample that was taken while the port stood in IDLE is not "since"
  pub too_early : shown 1 0 (ticked signs 154 ∷ ticked quiet 154 ∷ control 0 0x0005 ∷ []) ≡ nothing
