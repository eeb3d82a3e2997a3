-- What is proved of specs/Unbroken.
-- Assumes nothing.
use mathlib.Core.Path.{◌≡◌, ap}
use mathlib.Core.Bool.{Bool, true, false, cond}
use Rattle.verdict.specs.declared.Verdict.{Verdict}
use Rattle.verdict.specs.declared.Verdict.TheVariants.{Held, NotAsked}
use Rattle.demands.specs.Unbroken.{unbroken}

-- what every demand's program promises
pub either : (asked : Bool) (v : Verdict) → v ≡ cond asked Held NotAsked → unbroken v ≡ true
either true v e = ap unbroken e
either false v e = ap unbroken e
