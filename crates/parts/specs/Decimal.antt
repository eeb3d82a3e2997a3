-- docs/CONSOLE.md: "A number is decimal, at most 18,446,744,073,709,551,615."
-- Assumes nothing.
use Rattle.std.specs.Prelude.{ℕ, zero, suc, ◌+◌, ◌-◌, ◌*◌, ◌/◌, ◌%◌, ◌^◌, Bool, cond, ◌&&◌, List, [], ◌∷◌, ◌++◌, Option, Some, None, leb, ltb, length, get_or}
use Rattle.lists.specs.Every.{every}

-- the bytes from 0 to 9
unfoldable pub is_digit : ℕ → Bool
is_digit b = leb 48 b && leb b 57

-- what digits say in base ten
unfoldable pub value : List ℕ → ℕ
value [] = 0
value (b ∷ w) = (b - 48) * 10 ^ length w + value w

abbrev pub most : ℕ
most = 18446744073709551615

-- a word is a number if it has digits and nothing else, and they say no more than the most
unfoldable pub is_number : List ℕ → Bool
is_number w = ltb 0 (length w) && (every (length w) (λ p. is_digit (get_or w p 0)) && leb (value w) most)

unfoldable pub number_in : List ℕ → Option ℕ
number_in w = cond (is_number w) (Some (value w)) None

-- one digit more
unfoldable pub more_of : ℕ → ℕ → Option ℕ
more_of n b = cond (is_digit b && leb (10 * n + (b - 48)) most) (Some (10 * n + (b - 48))) None

-- the digits of a number, in at most k places
unfoldable pub spelt : ℕ → ℕ → List ℕ
spelt zero n = []
spelt (suc k) n = cond (ltb n 10) ((48 + n) ∷ []) (spelt k (n / 10) ++ ((48 + n % 10) ∷ []))

-- the digits of a number: 20 places are enough for 64 bits
unfoldable pub decimal : ℕ → List ℕ
decimal n = spelt 20 n
