-- What the program promises of every record: its verdict is not Broken.
-- Assumes nothing.
use Rattle.std.specs.Prelude.{Bool, true, false, Option, Some, None}
use Rattle.verdict.specs.declared.Verdict.{Verdict}
use Rattle.verdict.specs.declared.Verdict.TheVariants.{Held, NotAsked, Broken}

abbrev pub unbroken : Verdict → Bool
unbroken Held = true
unbroken NotAsked = true
unbroken Broken = false

-- at the end of the input there is none
abbrev pub fair : Option Verdict → Bool
fair (Some v) = unbroken v
fair None = true
