-- Questions that a row of a table asks of the definitions, and the answers that they give.
-- Assumes nothing.
use Rattle.std.specs.Prelude.{ℕ, ◌+◌, Bool, ◌≡◌, List, map, Option, Result}
use Rattle.sizes.specs.declared.refusals.Refusal.{Refusal}
use Rattle.power.specs.Power.{forced, supply_of, tenths}
use Rattle.power.specs.declared.Power.{Power}
use Rattle.class.specs.Class.{class_of, class_of_two, budget_of, is_demand}
use Rattle.sample.specs.Sample.{sample_of, flags_of, reserved_flags}
use Rattle.signature.specs.Signature.{outside, signature_of}
use Rattle.class.specs.declared.ClassReading.{ClassReading}
use Rattle.sample.specs.declared.Sample.{Sample}
use Rattle.sample.specs.declared.Flags.{Flags}
use Rattle.signature.specs.declared.Signature.{Signature}
use Rattle.share.specs.Cases.{three_kept}
use Rattle.search.specs.Search.{search_of}
use Rattle.search.specs.declared.Found.{Found}
use Rattle.control.specs.Control.{control_of, refused}
use Rattle.status.specs.Status.{status_word}
use Rattle.control.specs.declared.Control.{Control}
use Rattle.status.specs.declared.Condition.{Condition}
use Rattle.status.specs.declared.Latches.{Latches}

pub data Question : Type 0 where
  -- "dV/dI, V1 = 4,000". The document leaves I1 open; here it is 1,000
  differences : ℕ → ℕ → Question
  -- V1, V2, I1, I2
  signature : ℕ → ℕ → ℕ → ℕ → Question
  -- is a voltage outside 2,800..10,000
  voltage : ℕ → Question
  -- "Class at"
  class : ℕ → Question
  -- C1, C2
  two_currents : ℕ → ℕ → Question
  budget_of_row : ℕ → Question
  -- may a well-made port have this demand
  demand : ℕ → Question
  -- the sample of a port of a block
  sample : List ℕ → ℕ → Question
  flags_of_row : ℕ → Question
  flags_reserved_row : ℕ → Question
  -- does a write of this control word give 3
  refusal_3 : ℕ → Question
  fields : ℕ → Question
  status : Latches → ℕ → Condition → Question
  supply : ℕ → Question
  -- which of three closed ports of equal priority, with 154, 154 and 40, a supply keeps
  sharing : ℕ → Question
  -- what the search answers for a PDU
  pdu : List ℕ → Question
  forced_claim_row : Question

pub data Answer : Type 0 where
  shows : Signature → Answer
  is_class_row : Option ℕ → Answer
  reads : ClassReading → Answer
  power : Power → Answer
  sampled : Option Sample → Answer
  flags : Flags → Answer
  control : Control → Answer
  figure : Result Power Refusal → Answer
  stay : List Bool → Answer
  searched : Result Found Refusal → Answer
  word : ℕ → Answer
  test : Bool → Answer

-- what the definitions answer
unfoldable pub meaning : Question → Answer
meaning (differences dV dI) = shows (signature_of 4000 (4000 + dV) 1000 (1000 + dI))
meaning (signature v1 v2 i1 i2) = shows (signature_of v1 v2 i1 i2)
meaning (voltage v) = test (outside v)
meaning (class current) = is_class_row (class_of current)
meaning (two_currents c1 c2) = reads (class_of_two c1 c2)
meaning (budget_of_row k) = power (budget_of k)
meaning (demand d) = test (is_demand (tenths d))
meaning (sample block port) = sampled (sample_of block port)
meaning (flags_of_row w) = flags (flags_of w)
meaning (flags_reserved_row w) = test (reserved_flags w)
meaning (refusal_3 w) = test (refused w)
meaning (fields w) = control (control_of w)
meaning (status l k c) = word (status_word l k c)
meaning (supply n) = figure (supply_of n)
meaning (sharing s) = stay (three_kept s)
meaning (pdu bytes) = searched (search_of bytes)
meaning forced_claim_row = power forced

-- a row: a question, and the answer that it must have
abbrev pub Row : Type 0
Row = Question × Answer

-- every row's question has the row's answer
abbrev pub Holds : List Row → Type 0
Holds rows = map (λ (r : Row). meaning r.0) rows ≡ map (λ (r : Row). r.1) rows
