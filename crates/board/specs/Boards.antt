-- What differs between the boards that stand on this core: document 01's words of the access switch, and request [13]'s of the four-pair
-- model. Whatever is not here knows no board.
use Rattle.std.specs.Prelude.{ℕ, ◌+◌, Bool, not, ◌||◌, eqb}
use Rattle.std.specs.Int.Count.{ones}
use Rattle.lists.specs.Bits.{field, above}
use Rattle.power.specs.Power.{forced}
use Rattle.power.specs.declared.Power.{Power}
use Rattle.class.specs.Class as access
use Rattle.class.specs.declared.ClassReading.{ClassReading}
use Rattle.four_pair.specs.FourPair as fourPair
use Rattle.board.specs.declared.Board.{Board}
use Rattle.board.specs.declared.Board.TheVariants.{Access, FourPair}

-- "14 bytes a port"; "The third current stands after C2 and a sample is 16 bytes"
abbrev pub sample_bytes : Board → ℕ
sample_bytes Access = 14
sample_bytes FourPair = 16

-- "If C1 reads class 4, C2 must too, else failure"; "two 4s then class 0 is class 5, then class 1 is class 6; two 4s then class 4 is class 4"
abbrev pub class_shown : Board → ℕ → ℕ → ℕ → ClassReading
class_shown Access c1 c2 c3 = access.class_of_two c1 c2
class_shown FourPair c1 c2 c3 = fourPair.class_of_three c1 c2 c3

-- "a class over 4" is ill-made; "classes 0 to 6 are well-made here"
abbrev pub most_class : Board → ℕ
most_class Access = 4
most_class FourPair = 6

-- "Budgets for classes 0 to 4: 154, 40, 70, 154, 300"; "Budgets for 1 to 6: 40, 67, 140, 300, 450, 600; class 0 as class 3"
abbrev pub budget_of : Board → ℕ → Power
budget_of Access k = access.budget_of k
budget_of FourPair k = fourPair.budget_of k

-- "enable 10 asks for TEST_MODE, demand 154"; "a forced port claims 140"
abbrev pub forced_claim : Board → Power
forced_claim Access = forced
forced_claim FourPair = fourPair.forced_claim

-- what is not "a demand not 0, 40, 70, 154 or 300"; "Demands 0 to 600 .. are well-made here"
abbrev pub is_demand : Board → Power → Bool
is_demand Access d = access.is_demand d
is_demand FourPair d = fourPair.is_demand d

-- "control 0x0004"; "Cold start sets pair control 11 (word 0x000C)"
abbrev pub cold_word : Board → ℕ
cold_word Access = 0x0004
cold_word FourPair = 0x000C

-- "01 alternative A, 10 alternative B, others reserved here"; "pair control 11 ..; a write of another gives 3"
abbrev pub is_pair : Board → ℕ → Bool
is_pair Access pair = eqb pair 1 || eqb pair 2
is_pair FourPair pair = eqb pair 3

-- refusal 3, "reserved bits or codes in a control word": "15:6 zero" is broken, also by a number past 16 bits; enable is 11; or pair
-- control is none of the board's
unfoldable pub refused : Board → ℕ → Bool
refused board word = above 6 word || (eqb (field 0 2 word) 3 || not (is_pair board (field 2 2 word)))

-- the demand that a request of a port of a class becomes: its level; "Demand is that or the class budget, the smaller."
abbrev pub demand_for : Board → ℕ → ℕ → Power
demand_for Access v class = access.level_of v
demand_for FourPair v class = fourPair.demand_for v class

-- refusal 11; "Largest requests, 11 above them: 38, 64, 130, 255, 400, 510"
abbrev pub over_class : Board → ℕ → ℕ → Bool
over_class Access v class = access.over_class v class
over_class FourPair v class = fourPair.over_class v class

-- "a number of closed ports equal to the ones in the two masks"; "A closed port has its bit in both masks, so the closed number is the ones
-- of either"
abbrev pub closed_number : Board → ℕ → ℕ → ℕ
closed_number Access a b = ones a + ones b
closed_number FourPair a b = ones a
