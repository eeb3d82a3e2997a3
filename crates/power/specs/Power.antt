-- Document 01: "Power is a kind of its own, counted in tenths of a watt."
use Rattle.std.specs.Prelude.{ℕ, ◌+◌, min, Bool, cond, leb, ltb, eqb, Result, Ok}
use Rattle.sizes.specs.Sizes.{most_supply}
use Rattle.sizes.specs.Refused.{refused}
use Rattle.sizes.specs.declared.refusals.Refusal.{Refusal}
use Rattle.power.specs.declared.Power.{Power}
use Rattle.power.specs.declared.Sum.{Sum}

-- so many tenths of a watt
abbrev pub tenths : ℕ → Power
tenths n = record { 0 = n }

abbrev pub zero_power : Power
zero_power = tenths 0

-- what "enable 10 asks for TEST_MODE" claims: "demand 154"
abbrev pub forced : Power
forced = tenths 154

-- refusal 4: "supply figure over 60,000"
abbrev pub highest_supply : Power
highest_supply = tenths most_supply

-- a power is at most another
unfoldable pub at_most : Power → Power → Bool
at_most a b = leb a.0 b.0

-- and over it
unfoldable pub over : Power → Power → Bool
over a b = ltb b.0 a.0

unfoldable pub same : Power → Power → Bool
same a b = eqb a.0 b.0

-- the supply that a caller's number is; "supply figure over 60,000" is refused
unfoldable pub supply_of : ℕ → Result Power Refusal
supply_of figure = cond (leb figure highest_supply.0) (Ok (tenths figure)) (refused 4)

-- powers added up
abbrev pub sum_of : ℕ → Sum
sum_of n = record { 0 = n }

-- one power more; past the end of its type a sum stays there
unfoldable pub plus : Sum → Power → Sum
plus s p = sum_of (min (s.0 + p.0) 4294967295)

-- two sums in one, with the same end
unfoldable pub join : Sum → Sum → Sum
join a b = sum_of (min (a.0 + b.0) 4294967295)

-- a sum of demands is at most a supply
unfoldable pub fits : Sum → Power → Bool
fits s supply = leb s.0 supply.0
