-- Document 01, "Sharing the supply", of the cells before a tick and after it. It asks that no port had latch 12 before: then the shed ports
-- are those that have it after, and the kept ones those that are closed after.
-- Assumes nothing.
use Rattle.std.specs.Prelude.{ℕ, zero, suc, ◌+◌, ◌*◌, ◌/◌, ◌%◌, min, Bool, cond, not, ◌&&◌, ◌||◌, List, eqb, leb, ltb, get_or}
use Rattle.lists.specs.Bits.{bit}
use Rattle.lists.specs.Every.{every}
use Rattle.lists.specs.Total.{total}
use Rattle.class.specs.Class.{budgets}
use Rattle.second.specs.Answers.{closed_cell}

-- latch 12, "denied": bit 5 of the latches' cell
unfoldable pub denied_cell : List ℕ → ℕ → Bool
denied_cell l p = ltb p (get_or l 0 0) && bit 5 (get_or l (200 + p) 0)

unfoldable pub none_denied : List ℕ → Bool
none_denied l = every 48 (λ p. not (denied_cell l p))

-- "critical, high, then low and unknown alike", where "5:4 priority .. 01 critical, 10 high, 11 low, 00 unknown"
unfoldable pub urgency_cell : List ℕ → ℕ → ℕ
urgency_cell l p = cond (eqb (get_or l (56 + p) 0 / 16 % 4) 1) 0 (cond (eqb (get_or l (56 + p) 0 / 16 % 4) 2) 1 2)

-- "ports closed before the tick .. come first, then those asking. Within each: critical, high, then low and unknown alike; then lower port
-- number": one number, the lower the sooner in the ranking
unfoldable pub place_cell : List ℕ → ℕ → ℕ
place_cell l p = 64 * (cond (closed_cell l p) 0 3 + urgency_cell l p) + p

-- what a port claims: closed before, its demand; from IDLE "enable 10 asks for TEST_MODE, demand 154"; from CLASSIFYING "a class sets class
-- and demand", and the class stands in its cell after
unfoldable pub claim_cell : List ℕ → List ℕ → ℕ → ℕ
claim_cell l m p = cond (closed_cell l p) (get_or l (104 + p) 0) (cond (eqb (get_or l (8 + p) 0) 1) 154 (get_or budgets (get_or m (152 + p) 0) 0))

-- the place of the first that is shed among the ports below n; where none is, a number past all places
unfoldable pub first_shed : List ℕ → List ℕ → ℕ → ℕ
first_shed l m zero = 384
first_shed l m (suc n) = min (first_shed l m n) (cond (denied_cell m n) (place_cell l n) 384)

-- "An asker kept enters its state": TEST_MODE from IDLE, and otherwise POWER_UP
unfoldable pub entered_cell : List ℕ → List ℕ → ℕ → Bool
entered_cell l m p = closed_cell l p || eqb (get_or m (8 + p) 0) (cond (eqb (get_or l (8 + p) 0) 1) 8 5)

-- "one shed goes to IDLE. A closed port shed goes to IDLE, or from TEST_MODE to TEST_ERROR."
unfoldable pub left_cell : List ℕ → List ℕ → ℕ → Bool
left_cell l m p = eqb (get_or m (8 + p) 0) (cond (eqb (get_or l (8 + p) 0) 8) 9 1)

-- a kept port is ranked before all that is shed, and draws what it claimed; kept or shed, it is where it should be
unfoldable pub port_right : List ℕ → List ℕ → ℕ → ℕ → Bool
port_right l m first p =
    (not (closed_cell m p) || ((ltb (place_cell l p) first && eqb (get_or m (104 + p) 0) (claim_cell l m p)) && entered_cell l m p))
    && (not (denied_cell m p) || left_cell l m p)

unfoldable pub ports_right : List ℕ → List ℕ → ℕ → Bool
ports_right l m first = every 48 (port_right l m first)

-- "the sum of demands" of what is kept
unfoldable pub kept_cells : List ℕ → ℕ
kept_cells m = total 48 (λ p. cond (closed_cell m p) (get_or m (104 + p) 0) 0)

-- "Going down the ranking, claims are kept while the sum of demands is at most the supply. The first that doesn't fit and all after it are
-- shed": what is kept fits, and with the first that is shed it would not
unfoldable pub shares_right : List ℕ → List ℕ → ℕ → Bool
shares_right l m figure =
    ports_right l m (first_shed l m 48)
    && (leb (kept_cells m) figure
    && (eqb (first_shed l m 48) 384 || ltb figure (kept_cells m + claim_cell l m (first_shed l m 48 % 64))))
