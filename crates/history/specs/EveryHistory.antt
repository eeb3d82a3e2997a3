-- No history is missed: for every list of calls there are bytes that reach the same table with the same things shown. Nothing is asked of
-- the calls. A number of more than 32 bits is refused, and a refused call changes nothing and is left out; a tick that runs on a block
-- of any numbers is one on bytes.
-- Assumes nothing.
use Rattle.std.specs.Prelude.{ℕ, ◌<◌, ◌≤◌, ◌≡◌, List, get_or}
use Rattle.port.specs.States.{is_idle}
use Rattle.table.specs.Parts.{port_at}
use Rattle.interface.specs.Laws.{Are}
use Rattle.statements.specs.History.{Call, reached, shown}
use Rattle.history.specs.Decode.{calls_of}
use Rattle.history.specs.Lent.{cells_reached}
use Rattle.marks.specs.Mark.{mark_of}
use Rattle.history.specs.Marks.{marks_reached}
use Rattle.history.specs.Spelled.{Bytes}

-- ---- the same table, and the same shown

pub record Same (n : ℕ) (g h : List Call) : Type 0 where
  pub table : reached n g ≡ reached n h
  pub shows : (p : ℕ) → shown n p g ≡ shown n p h

-- ---- the law

-- bytes that reach what the calls reach. `same` is of the calls that the bytes ask for; `cells` and `marks` are of what `run` leaves after them
pub record Reaching (n : ℕ) (h : List Call) : Type 0 where
  pub bytes : List ℕ
  pub are_bytes : Bytes bytes
  pub same : Same n (calls_of bytes) h
  pub cells : Are (reached n h) (cells_reached n (calls_of bytes))
  pub marks : (p : ℕ) → p < 48 → get_or (marks_reached n (calls_of bytes)) p 0 ≡ mark_of (is_idle (port_at (reached n h) p).state) (shown n p h)

-- for every list of calls there are bytes that reach the same table with the same things shown: nothing is asked of the calls
abbrev pub EveryHistoryReached : Type 0
EveryHistoryReached = (n : ℕ) → 1 ≤ n → n ≤ 48 → (h : List Call) → Reaching n h
