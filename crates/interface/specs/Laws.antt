-- What holds of every call of the C interface: no refusal is numbered 0, and it writes nothing; what an accepted call leaves is read by the
-- next one as the table that the core told, and what is no part of that table is as it was; and a table that was saved comes back.
-- Assumes nothing.
use Rattle.std.specs.Prelude.{◌≡◌, true, false, List, ℕ, ◌≤◌, ◌<◌, length, get_or, Result, Ok, Err}
use Rattle.sizes.specs.Sizes.{most_ports}
use Rattle.sizes.specs.Refused.{number}
use Rattle.sizes.specs.declared.refusals.Refusal.{Refusal}
use Rattle.table.specs.Parts.{Told}
use Rattle.table.specs.declared.form.Closed.{Closed}
use Rattle.table.specs.declared.form.Table.{Table}
use Rattle.cells.specs.Cells.{table_of, is_table, is_of_port, cells_long}
use Rattle.cells.specs.Lent.{cells_told, cells_cold}
use Rattle.replies.specs.Calls.{request}
use Rattle.replies.specs.OnCells.{start_on, control_on, status_on, request_on}
use Rattle.passes.specs.OnCells.{tick_on}
use Rattle.passes.specs.Tick.{tick}
use Rattle.image.specs.Image.{image_of, save, room_after, image_long}
use Rattle.image.specs.Load.{table_in, restore, cells_restored}
use Rattle.search.specs.Search.{search_of}
use Rattle.reader.specs.Read.{read_of}
use Rattle.ipaqsuni.specs.Calls.{word_left, mask_a_left, mask_b_left, closed_left}
use Rattle.ipaqsuni.specs.Outcome.{number_of}
use Rattle.ipaqsuni.specs.Tlv.{write_call}

-- ---- include/ipaqsuni.h: "A refusal writes no cell and no byte anywhere: not in the table, and in no place for an answer."

-- of any call on a table that answers so, whatever it was lent
pub record RefusalLeaves : Type 0 where
  pub cold : (told : Told (Result Unit Refusal)) (l : List ℕ) → (number_of told.answer ≡ 0 → ⊥) → cells_cold told l ≡ l
  pub told : (told : Told (Result Unit Refusal)) (l : List ℕ) → (number_of told.answer ≡ 0 → ⊥) → cells_told told l ≡ l
  pub read : (told : Told (Result ℕ Refusal)) (l : List ℕ) (word : ℕ) → (number_of told.answer ≡ 0 → ⊥) → (cells_told told l ≡ l) × (word_left told.answer word ≡ word)
  pub ticked : (told : Told (Result Closed Refusal)) (l : List ℕ) (a b n : ℕ) → (number_of told.answer ≡ 0 → ⊥)
      → (cells_told told l ≡ l) × (mask_a_left told.answer a ≡ a) × (mask_b_left told.answer b ≡ b) × (closed_left told.answer n ≡ n)
  pub saved : (l room : List ℕ) → (number_of (save l room) ≡ 0 → ⊥) → room_after l room ≡ room
  pub restored : (bytes l : List ℕ) → (number_of (restore bytes l) ≡ 0 → ⊥) → cells_restored bytes l ≡ l

-- ---- include/ipaqsuni.h: "What an accepted call leaves in the cells is the table that document 01's rules give."; "No refusal is numbered 0."

-- the cells are that table
abbrev pub Are : Table → List ℕ → Type 0
Are t l = (is_table l ≡ true) × (table_of l ≡ t)

-- of what a call told and left
abbrev pub Fair : {A : Type 0} → Result A Refusal → Table → List ℕ → Type 0
Fair (Ok answer) t after = Are t after
Fair (Err refusal) t after = 1 ≤ number refusal

-- every call on a table
pub record Calls : Type 0 where
  pub cold_start : (l : List ℕ) (ports : ℕ) → Fair (start_on l ports).answer (start_on l ports).table (cells_cold (start_on l ports) l)
  pub write_control : (l : List ℕ) (port word : ℕ) → Fair (control_on l port word).answer (control_on l port word).table (cells_told (control_on l port word) l)
  pub read_status : (l : List ℕ) (port : ℕ) → Fair (status_on l port).answer (status_on l port).table (cells_told (status_on l port) l)
  pub request : (l : List ℕ) (port value : ℕ) → Fair (request_on l port value).answer (request_on l port value).table (cells_told (request_on l port value) l)
  pub tick : (l samples : List ℕ) (supply : ℕ) → Fair (tick_on l samples supply).answer (tick_on l samples supply).table (cells_told (tick_on l samples supply) l)

-- ---- include/ipaqsuni.h: "Places at or past the count .. never change. Reserved cells .. are never looked at or changed by any other call."

-- a cell that is no field of a port below the count, nor the stored supply, is as it was after every call but a cold start or a restore
pub record Untouched : Type 0 where
  pub told : (told : Told (Result Unit Refusal)) (l : List ℕ) (k : ℕ) → k < length l → is_of_port told.table.count k ≡ false → (k ≡ 1 → ⊥) → get_or (cells_told told l) k 0 ≡ get_or l k 0
  pub read : (told : Told (Result ℕ Refusal)) (l : List ℕ) (k : ℕ) → k < length l → is_of_port told.table.count k ≡ false → (k ≡ 1 → ⊥) → get_or (cells_told told l) k 0 ≡ get_or l k 0
  pub ticked : (told : Told (Result Closed Refusal)) (l : List ℕ) (k : ℕ) → k < length l → is_of_port told.table.count k ≡ false → (k ≡ 1 → ⊥) → get_or (cells_told told l) k 0 ≡ get_or l k 0

-- ---- save and restore

pub record Images : Type 0 where
  -- what was saved is the table's image; restored, into whatever cells, it is the same table again
  pub saved : (l room : List ℕ) → number_of (save l room) ≡ 0 → room_after l room ≡ image_of (table_of l)
  pub back : (l room m : List ℕ) → number_of (save l room) ≡ 0 → length m ≡ cells_long → (number_of (restore (room_after l room) m) ≡ 0) × (table_of (cells_restored (room_after l room) m) ≡ table_of l)
  -- what was restored is the image's table, and one that calls take up if it has at most 48 ports
  pub restored : (bytes l : List ℕ) → number_of (restore bytes l) ≡ 0 → table_of (cells_restored bytes l) ≡ table_in bytes
  pub table : (bytes l : List ℕ) → number_of (restore bytes l) ≡ 0 → (table_in bytes).count ≤ most_ports → is_table (cells_restored bytes l) ≡ true
  -- and saved again it has the same bytes
  pub again : (bytes l room : List ℕ) → ((k : ℕ) → get_or bytes k 0 < 256) → number_of (restore bytes l) ≡ 0 → length room ≡ image_long
      → (number_of (save (cells_restored bytes l) room) ≡ 0) × (room_after (cells_restored bytes l) room ≡ bytes)

-- ---- the calls on frames, which have no table

abbrev pub Numbered : {X : Type 0} → Result X Refusal → Type 0
Numbered (Ok x) = Unit {0}
Numbered (Err refusal) = 1 ≤ number refusal

pub record Frames : Type 0 where
  pub find : (pdu : List ℕ) → Numbered (search_of pdu)
  pub read : (tlv : List ℕ) → Numbered (read_of tlv)
  pub write : (numbers room : List ℕ) → Numbered (write_call numbers room)
