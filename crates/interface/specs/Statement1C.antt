-- The first statement, of the C interface. "Any table, sample block, control word, frame or number may be handed in. The core answers or
-- refuses with a number from document 01, and each refusal changes no table and writes no byte." Each function has the list of its refusals,
-- in order: what is its own (13 for cells or bytes that are no table, 3 for numbers that are no fields) stands first, and then document
-- 01's. It answers the first number whose condition holds, and 0 if none does. What the functions promise is in `Unique`.
-- Assumes nothing.
use Rattle.std.specs.Prelude.{ℕ, ◌≡◌, Bool, not, List, [], ◌∷◌, eqb, length}
use Rattle.lists.specs.Ladder.{ladder}
use Rattle.cells.specs.Cells.{cells_long, table_of, is_table}
use Rattle.cells.specs.Lent.{cells_told, cells_cold}
use Rattle.replies.specs.Calls.{cold_refusals, control_refusals, status_refusals, request_refusals, request}
use Rattle.replies.specs.OnCells.{start_on, control_on, status_on, request_on}
use Rattle.passes.specs.OnCells.{tick_on}
use Rattle.passes.specs.Tick.{tick_refusals, tick}
use Rattle.image.specs.Image.{imageable, save as save_call, room_after, image_long}
use Rattle.image.specs.Load.{reads, restore as restore_call, cells_restored}
use Rattle.reader.specs.Read.{read_refusals, read_of}
use Rattle.search.specs.Search.{search_refusals, search_of}
use Rattle.writer.specs.Write.{write_refusals}
use Rattle.ipaqsuni.specs.Calls.{word_left, mask_a_left, mask_b_left, closed_left}
use Rattle.ipaqsuni.specs.Outcome.{number_of, leaves}
use Rattle.ipaqsuni.specs.Tlv.{offset_found, size_found, numbers_of, fields_given, write_call, room_written, size_written}
use Rattle.numbers.specs.Numbers.{no_fields}

-- the first number whose condition holds, and 0 if none does
abbrev pub first_number : List (ℕ × Bool) → ℕ
first_number rs = ladder rs (λ k. k) 0

-- include/ipaqsuni.h: "Refused: 13 for another length than IPAQSUNI_CELLS, then 2."
abbrev pub start_list : List ℕ → ℕ → List (ℕ × Bool)
start_list cells ports = (13, not (eqb (length cells) cells_long)) ∷ cold_refusals ports

-- "13 first, in every call that takes a table": 13 for cells that are no table, and then document 01's, which starts with 13 of an ill-made one
abbrev pub control_list : List ℕ → ℕ → ℕ → List (ℕ × Bool)
control_list cells port word = (13, not (is_table cells)) ∷ control_refusals (table_of cells) port word

abbrev pub status_list : List ℕ → ℕ → List (ℕ × Bool)
status_list cells port = (13, not (is_table cells)) ∷ status_refusals (table_of cells) port

abbrev pub request_list : List ℕ → ℕ → ℕ → List (ℕ × Bool)
request_list cells port value = (13, not (is_table cells)) ∷ request_refusals (table_of cells) port value

abbrev pub tick_list : List ℕ → List ℕ → ℕ → List (ℕ × Bool)
tick_list cells samples supply = (13, not (is_table cells)) ∷ tick_refusals (table_of cells) samples supply

-- an image is nothing of document 01's: all of its numbers are the interface's own
abbrev pub save_list : List ℕ → List ℕ → List (ℕ × Bool)
save_list cells image = (13, not (imageable cells)) ∷ (1, not (eqb (length image) image_long)) ∷ []

abbrev pub restore_list : List ℕ → List ℕ → List (ℕ × Bool)
restore_list image cells = (13, not (reads image)) ∷ (13, not (eqb (length cells) cells_long)) ∷ []

-- 3 for numbers that are no fields, and then "Writing: 3, 10, 1."
abbrev pub write_list : List ℕ → List ℕ → List (ℕ × Bool)
write_list fields room = (3, no_fields fields) ∷ write_refusals (fields_given fields) room

-- a call was refused
abbrev pub Refuses : ℕ → Type 0
Refuses number = number ≡ 0 → ⊥

pub record FirstC : Type 0 where
  -- the number that each function answers
  pub cold_start : (cells : List ℕ) (ports : ℕ) → number_of (start_on cells ports).answer ≡ first_number (start_list cells ports)
  pub write_control : (cells : List ℕ) (port word : ℕ) → number_of (control_on cells port word).answer ≡ first_number (control_list cells port word)
  pub read_status : (cells : List ℕ) (port : ℕ) → number_of (status_on cells port).answer ≡ first_number (status_list cells port)
  pub request : (cells : List ℕ) (port value : ℕ) → number_of (request_on cells port value).answer ≡ first_number (request_list cells port value)
  pub tick : (cells samples : List ℕ) (supply : ℕ) → number_of (tick_on cells samples supply).answer ≡ first_number (tick_list cells samples supply)
  pub save : (cells image : List ℕ) → number_of (save_call cells image) ≡ first_number (save_list cells image)
  pub restore : (cells image : List ℕ) → number_of (restore_call image cells) ≡ first_number (restore_list image cells)
  pub find : (pdu : List ℕ) → number_of (search_of pdu) ≡ first_number (search_refusals pdu)
  pub read : (tlv : List ℕ) → number_of (read_of tlv) ≡ first_number (read_refusals tlv)
  pub write : (fields room : List ℕ) → number_of (write_call fields room) ≡ first_number (write_list fields room)
  -- "each refusal changes no table and writes no byte": every cell and every place that was lent is as before
  pub cold_start_kept : (cells : List ℕ) (ports : ℕ) → Refuses (number_of (start_on cells ports).answer) → cells_cold (start_on cells ports) cells ≡ cells
  pub write_control_kept : (cells : List ℕ) (port word : ℕ) → Refuses (number_of (control_on cells port word).answer) → cells_told (control_on cells port word) cells ≡ cells
  pub read_status_kept : (cells : List ℕ) (port status : ℕ) → Refuses (number_of (status_on cells port).answer)
      → (cells_told (status_on cells port) cells ≡ cells) × (word_left (status_on cells port).answer status ≡ status)
  pub request_kept : (cells : List ℕ) (port value : ℕ) → Refuses (number_of (request_on cells port value).answer) → cells_told (request_on cells port value) cells ≡ cells
  pub tick_kept : (cells samples : List ℕ) (supply a b closed : ℕ) → Refuses (number_of (tick_on cells samples supply).answer)
      → (cells_told (tick_on cells samples supply) cells ≡ cells) × (mask_a_left (tick_on cells samples supply).answer a ≡ a)
      × (mask_b_left (tick_on cells samples supply).answer b ≡ b) × (closed_left (tick_on cells samples supply).answer closed ≡ closed)
  pub save_kept : (cells image : List ℕ) → Refuses (number_of (save_call cells image)) → room_after cells image ≡ image
  pub restore_kept : (cells image : List ℕ) → Refuses (number_of (restore_call image cells)) → cells_restored image cells ≡ cells
  pub find_kept : (pdu : List ℕ) (offset length : ℕ) → Refuses (number_of (search_of pdu))
      → (leaves offset_found (search_of pdu) offset ≡ offset) × (leaves size_found (search_of pdu) length ≡ length)
  pub read_kept : (tlv fields : List ℕ) → Refuses (number_of (read_of tlv)) → leaves numbers_of (read_of tlv) fields ≡ fields
  pub write_kept : (fields room : List ℕ) (written : ℕ) → Refuses (number_of (write_call fields room))
      → (leaves room_written (write_call fields room) room ≡ room) × (leaves size_written (write_call fields room) written ≡ written)
