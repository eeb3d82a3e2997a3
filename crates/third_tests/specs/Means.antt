-- What the tests mean, of any core. Take any table, answer and account of what was shown: if the answer's masks name the closed ports and
-- the marks are those of the account, then of a tick that passes the tests the demand holds. So a weaker test is refused here, also where
-- code and definition agree on it.
-- Assumes nothing.
use Rattle.std.specs.Prelude.{ℕ, ◌≤◌, ◌≡◌, true, false}
use Rattle.port.specs.States.{in_test}
use Rattle.table.specs.Drawn.{closed_at, closed_sum}
use Rattle.table.specs.Parts.{port_at}
use Rattle.table.specs.declared.form.Table.{Table}
use Rattle.statements.specs.History.{Shown, both}

-- what the demand says of a table on a figure, and of what each port has shown
pub record Holds (t : Table) (figure : ℕ) (account : ℕ → Shown) : Type 0 where
  -- "the closed ports' demands add up to no more than that figure"
  pub fits : closed_sum t ≤ figure
  -- "no port outside the forced test state is closed unless, since it last stood in IDLE, it showed a valid signature and gave a class"
  pub shows : (p : ℕ) → closed_at t p ≡ true → in_test (port_at t p).state ≡ false → account p ≡ both
