-- Rows of the four-pair board: each limit of the third current, each budget, both sides of each largest request, and the entries of the loss
-- table that request [13] names. Proved in proofs/Rows.
-- Assumes nothing.
use Rattle.std.specs.Prelude.{ℕ, Bool, true, false, ◌≡◌, List, [], ◌∷◌, map, Result, Ok, Err}
use Rattle.power.specs.Power.{tenths}
use Rattle.power.specs.declared.Power.{Power}
use Rattle.class.specs.declared.ClassReading.{ClassReading}
use Rattle.class.specs.declared.Failure.{Failure}
use Rattle.class.specs.declared.Failure.TheVariants.{OverCurrent, Disagree}
use Rattle.four_pair.specs.FourPair.{class_of_three, budget_of, forced_claim, over_class, loss_of, demand_for, is_demand}

pub data Question : Type 0 where
  -- C1, C2, C3
  three_currents : ℕ → ℕ → ℕ → Question
  budget_of_row : ℕ → Question
  -- is a request over the largest of a class
  over : ℕ → ℕ → Question
  loss : ℕ → Question
  -- what a port is granted for a request, by its class
  granted : ℕ → ℕ → Question
  -- may a well-made port have this demand
  demand : ℕ → Question
  forced_claim_row : Question

pub data Answer : Type 0 where
  reads : ClassReading → Answer
  power : Power → Answer
  number : ℕ → Answer
  test : Bool → Answer

-- what the definitions answer
unfoldable pub meaning : Question → Answer
meaning (three_currents c1 c2 c3) = reads (class_of_three c1 c2 c3)
meaning (budget_of_row k) = power (budget_of k)
meaning (over value k) = test (over_class value k)
meaning (loss x) = number (loss_of x)
meaning (granted value k) = power (demand_for value k)
meaning (demand d) = test (is_demand (tenths d))
meaning forced_claim_row = power forced_claim

-- a row: a question, and the answer that it must have
abbrev pub Row : Type 0
Row = Question × Answer

-- every row's question has the row's answer
abbrev pub Holds : List Row → Type 0
Holds rows = map (λ (r : Row). meaning r.0) rows ≡ map (λ (r : Row). r.1) rows

-- what the currents show, and how many of them were used
abbrev shown : Result ℕ Failure → ℕ → ClassReading
shown e n = record { shown = e; used = n }

unfoldable pub currents : List Row
currents =
    (three_currents 40000 40000 0, reads (shown (Ok 5) 3))
    ∷ (three_currents 40000 40000 5000, reads (shown (Ok 5) 3))
    ∷ (three_currents 40000 40000 5001, reads (shown (Ok 6) 3))
    ∷ (three_currents 40000 40000 13000, reads (shown (Ok 6) 3))
    ∷ (three_currents 40000 40000 13001, reads (shown (Err Disagree) 3))
    ∷ (three_currents 40000 40000 31000, reads (shown (Err Disagree) 3))
    ∷ (three_currents 40000 40000 31001, reads (shown (Ok 4) 3))
    ∷ (three_currents 40000 40000 45000, reads (shown (Ok 4) 3))
    ∷ (three_currents 40000 40000 45001, reads (shown (Err Disagree) 3))
    ∷ (three_currents 31001 45000 0, reads (shown (Ok 5) 3))
    ∷ (three_currents 45000 31001 5001, reads (shown (Ok 6) 3))
    ∷ (three_currents 40000 31000 0, reads (shown (Err Disagree) 2))
    ∷ (three_currents 40000 0 5001, reads (shown (Err Disagree) 2))
    ∷ (three_currents 40000 45001 40000, reads (shown (Err Disagree) 2))
    ∷ (three_currents 31000 40000 0, reads (shown (Ok 3) 1))
    ∷ (three_currents 21000 40000 40000, reads (shown (Ok 2) 1))
    ∷ (three_currents 13000 40000 5001, reads (shown (Ok 1) 1))
    ∷ (three_currents 5000 40000 0, reads (shown (Ok 0) 1))
    ∷ (three_currents 45001 40000 0, reads (shown (Err OverCurrent) 1))
    ∷ (three_currents 65535 65535 65535, reads (shown (Err OverCurrent) 1))
    ∷ []

unfoldable pub requests : List Row
requests =
    (budget_of_row 0, power (tenths 140))
    ∷ (budget_of_row 1, power (tenths 40))
    ∷ (budget_of_row 2, power (tenths 67))
    ∷ (budget_of_row 3, power (tenths 140))
    ∷ (budget_of_row 4, power (tenths 300))
    ∷ (budget_of_row 5, power (tenths 450))
    ∷ (budget_of_row 6, power (tenths 600))
    ∷ (budget_of_row 7, power (tenths 0))
    ∷ (forced_claim_row, power (tenths 140))
    ∷ (demand 0, test true)
    ∷ (demand 600, test true)
    ∷ (demand 601, test false)
    ∷ (over 130 0, test false)
    ∷ (over 131 0, test true)
    ∷ (over 38 1, test false)
    ∷ (over 39 1, test true)
    ∷ (over 64 2, test false)
    ∷ (over 65 2, test true)
    ∷ (over 130 3, test false)
    ∷ (over 131 3, test true)
    ∷ (over 255 4, test false)
    ∷ (over 256 4, test true)
    ∷ (over 400 5, test false)
    ∷ (over 401 5, test true)
    ∷ (over 510 6, test false)
    ∷ (over 511 6, test true)
    ∷ (over 0 7, test false)
    ∷ (over 1 7, test true)
    ∷ []

-- "0 gives 0, 1 gives 2, 255 gives 274, 400 gives 451, 510 gives 600", and what a port is granted of them: at the largest request of class 5
-- the budget is the smaller
unfoldable pub losses : List Row
losses =
    (loss 0, number 0)
    ∷ (loss 1, number 2)
    ∷ (loss 255, number 274)
    ∷ (loss 400, number 451)
    ∷ (loss 510, number 600)
    ∷ (loss 511, number 0)
    ∷ (granted 38 1, power (tenths 39))
    ∷ (granted 255 4, power (tenths 274))
    ∷ (granted 255 3, power (tenths 140))
    ∷ (granted 400 5, power (tenths 450))
    ∷ (granted 400 6, power (tenths 451))
    ∷ (granted 510 6, power (tenths 600))
    ∷ []
