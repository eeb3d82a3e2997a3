-- Several conditions, as one test.
-- Assumes nothing.
use Rattle.std.specs.Prelude.{Bool, false, ◌||◌, List, [], ◌∷◌}

-- one of these conditions holds
abbrev pub one_holds : List Bool → Bool
one_holds [] = false
one_holds (b ∷ bs) = b || one_holds bs
