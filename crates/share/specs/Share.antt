-- Document 01, "Sharing the supply", over any number n of places, with a rank and a demand at each. Rank 0 comes first.
use Rattle.std.specs.Prelude.{ℕ, Bool, cond, ◌&&◌, ◌||◌, ltb, leb, eqb}
use Rattle.lists.specs.Total.{total}

-- "ports closed before the tick .. come first, then those asking. Within each: critical, high, then low and unknown alike":
-- two kinds of three ranks, 0 to 5, and one more for a place that claims nothing
abbrev pub no_claim : ℕ
no_claim = 6

-- a place claims if its rank is below that
unfoldable pub claims : (ℕ → ℕ) → ℕ → Bool
claims rank p = ltb (rank p) no_claim

-- q is ranked before p: by the lower rank, "then lower port number"
unfoldable pub before : (ℕ → ℕ) → ℕ → ℕ → Bool
before rank q p = ltb (rank q) (rank p) || (eqb (rank q) (rank p) && ltb q p)

-- going down the ranking to p, the claim at q is met: it is p, or it is ranked before p
unfoldable pub met : (ℕ → ℕ) → ℕ → ℕ → Bool
met rank p q = claims rank q && (eqb q p || before rank q p)

-- "the sum of demands" of the places that pass the test f
unfoldable pub sum_where : ℕ → (ℕ → ℕ) → (ℕ → Bool) → ℕ
sum_where n demand f = total n (λ p. cond (f p) (demand p) 0)

-- "Going down the ranking": the sum of demands down to p, p with it
unfoldable pub down : ℕ → (ℕ → ℕ) → (ℕ → ℕ) → ℕ → ℕ
down n rank demand p = sum_where n demand (met rank p)

-- "claims are kept while the sum of demands is at most the supply. The first that doesn't fit and all after it are shed,
-- smaller ones too.": no demand is below 0, so the sum on the way down never falls, and what does not fit stays so.
-- `Walk` says the same place by place down the ranking
unfoldable pub keeps : ℕ → (ℕ → ℕ) → (ℕ → ℕ) → ℕ → ℕ → Bool
keeps n rank demand supply p = claims rank p && leb (down n rank demand p) supply

-- the sum of demands of what is kept
unfoldable pub kept_sum : ℕ → (ℕ → ℕ) → (ℕ → ℕ) → ℕ → ℕ
kept_sum n rank demand supply = sum_where n demand (keeps n rank demand supply)

-- the sum of demands of all claims
unfoldable pub claimed_sum : ℕ → (ℕ → ℕ) → (ℕ → ℕ) → ℕ
claimed_sum n rank demand = sum_where n demand (claims rank)
