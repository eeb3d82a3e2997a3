-- "The numbers a refusal gives": document 01's numbers, each with its name. The lists of the refusals of a call are of numbers, as document 01's are.
-- Assumes nothing.
use Rattle.std.specs.Prelude.{ℕ, ◌-◌, List, [], ◌∷◌, get_or, Result, Err}
use Rattle.sizes.specs.declared.refusals.Refusal.{Refusal}
use Rattle.sizes.specs.declared.refusals.Refusal.TheVariants.{BadLength, NoSuchPort, Reserved, SupplyTooLarge, WrongState, Cut, NoTlv, SeveralTlvs, NotOneTlv, BadValue, OverClass, OverSupply, IllMade}

-- the number of a refusal
abbrev pub number : Refusal → ℕ
number BadLength = 1
number NoSuchPort = 2
number Reserved = 3
number SupplyTooLarge = 4
number WrongState = 5
number Cut = 6
number NoTlv = 7
number SeveralTlvs = 8
number NotOneTlv = 9
number BadValue = 10
number OverClass = 11
number OverSupply = 12
number IllMade = 13

-- document 01's table, from 1 on
abbrev pub refusals : List Refusal
refusals =
    BadLength ∷ NoSuchPort ∷ Reserved ∷ SupplyTooLarge ∷ WrongState ∷ Cut ∷ NoTlv ∷ SeveralTlvs ∷ NotOneTlv ∷ BadValue ∷ OverClass ∷ OverSupply
    ∷ IllMade ∷ []

-- the refusal that has a number
abbrev pub refusal : ℕ → Refusal
refusal k = get_or refusals (k - 1) IllMade

-- an answer that refuses with a number
abbrev pub refused : {A : Type 0} → ℕ → Result A Refusal
refused k = Err (refusal k)
