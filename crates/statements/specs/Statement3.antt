-- The third statement. "Take any table that calls can reach from a cold start, one block of samples, and two supply figures, each within
-- range; let the tick be accepted. Every port closed under the smaller figure is closed under the greater. Under either, the closed ports'
-- demands add up to no more than that figure, and no port outside the forced test state is closed unless, since it last stood in IDLE, it
-- showed a valid signature and gave a class."
-- Assumes nothing.
use Rattle.std.specs.Prelude.{ℕ, ◌≤◌, ◌≡◌, true, false, List, ◌∷◌}
use Rattle.sizes.specs.Sizes.{most_ports}
use Rattle.port.specs.States.{in_test}
use Rattle.table.specs.Drawn.{closed_sum, closed_at}
use Rattle.table.specs.Parts.{port_at}
use Rattle.passes.specs.Tick.{tick}
use Rattle.statements.specs.History.{Call, ticked, reached, accepted, both, shown}

-- what is claimed of a history h from a cold start of n ports, a block, and two figures
pub record Third (n : ℕ) (h : List Call) (block : List ℕ) (less more : ℕ) : Type 0 where
  -- "Every port closed under the smaller figure is closed under the greater."
  pub closes_more : (p : ℕ) → closed_at (tick (reached n h) block less).table p ≡ true → closed_at (tick (reached n h) block more).table p ≡ true
  -- "Under either, the closed ports' demands add up to no more than that figure"
  pub fits_less : closed_sum (tick (reached n h) block less).table ≤ less
  pub fits_more : closed_sum (tick (reached n h) block more).table ≤ more
  -- "no port outside the forced test state is closed unless, since it last stood in IDLE, it showed a valid signature and gave a class"
  pub shown_less : (p : ℕ) → closed_at (tick (reached n h) block less).table p ≡ true → in_test (port_at (tick (reached n h) block less).table p).state ≡ false
      → shown n p (ticked block less ∷ h) ≡ both
  pub shown_more : (p : ℕ) → closed_at (tick (reached n h) block more).table p ≡ true → in_test (port_at (tick (reached n h) block more).table p).state ≡ false
      → shown n p (ticked block more ∷ h) ≡ both

-- "Take any table that calls can reach from a cold start, one block of samples, and two supply figures, each within range; let the tick be
-- accepted." A figure with which the tick is accepted is within range
abbrev pub ThirdStatement : Type 0
ThirdStatement =
    (n : ℕ) → 1 ≤ n → n ≤ most_ports → (h : List Call) (block : List ℕ) (less more : ℕ) → less ≤ more
    → accepted (tick (reached n h) block less).answer ≡ true → accepted (tick (reached n h) block more).answer ≡ true
    → Third n h block less more
