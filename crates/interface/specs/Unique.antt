-- One possible answer: for each function of the C interface, two answers that obey its promise are equal, with what they leave in everything lent.
-- The promise stands here in the words of the source up to names, as in `Unique` of the crate `statements`; `tools/public` compares.
-- Assumes nothing.
use Rattle.std.specs.Prelude.{ℕ, ◌≡◌, List}
use Rattle.cells.specs.Lent.{cells_told, cells_cold}
use Rattle.replies.specs.OnCells.{start_on, control_on, status_on, request_on}
use Rattle.passes.specs.OnCells.{tick_on}
use Rattle.image.specs.Image.{save, room_after}
use Rattle.image.specs.Load.{restore, cells_restored}
use Rattle.search.specs.Search.{search_of}
use Rattle.reader.specs.Read.{read_of}
use Rattle.ipaqsuni.specs.Outcome.{number_of, leaves}
use Rattle.ipaqsuni.specs.Calls.{word_left, mask_a_left, mask_b_left, closed_left}
use Rattle.ipaqsuni.specs.Tlv.{offset_found, size_found, numbers_of, write_call, room_written, size_written}

-- an answer's number and what one lent place holds
abbrev pub One2 : (A : Type 0) → (ℕ → A → Type 0) → Type 0
One2 A promise = (r s : ℕ) (a b : A) → promise r a → promise s b → (r ≡ s) × (a ≡ b)

-- and of two
abbrev pub One3 : (A B : Type 0) → (ℕ → A → B → Type 0) → Type 0
One3 A B promise = (r s : ℕ) (a b : A) (c d : B) → promise r a c → promise s b d → (r ≡ s) × (a ≡ b) × (c ≡ d)

-- and of a tick's four
abbrev pub One5 : (A B C D : Type 0) → (ℕ → A → B → C → D → Type 0) → Type 0
One5 A B C D promise = (r s : ℕ) (a b : A) (c d : B) (e f : C) (g h : D) → promise r a c e g → promise s b d f h → (r ≡ s) × (a ≡ b) × (c ≡ d) × (e ≡ f) × (g ≡ h)

pub record Unique : Type 0 where
  pub ipaqsuni_tables_ipaqsuni_cold_start : (cells : List ℕ) (ports : ℕ) → One2 (List ℕ) (λ r cells'. (r ≡ number_of (start_on cells ports).answer) × (cells' ≡ cells_cold (start_on cells ports) cells))
  pub ipaqsuni_tables_ipaqsuni_write_control : (cells : List ℕ) (port word : ℕ) → One2 (List ℕ) (λ r cells'. (r ≡ number_of (control_on cells port word).answer) × (cells' ≡ cells_told (control_on cells port word) cells))
  pub ipaqsuni_tables_ipaqsuni_read_status : (cells : List ℕ) (port status : ℕ) → One3 (List ℕ) ℕ (λ r cells' status'. (r ≡ number_of (status_on cells port).answer) × (cells' ≡ cells_told (status_on cells port) cells) × (status' ≡ word_left (status_on cells port).answer status))
  pub ipaqsuni_tables_ipaqsuni_request : (cells : List ℕ) (port value : ℕ) → One2 (List ℕ) (λ r cells'. (r ≡ number_of (request_on cells port value).answer) × (cells' ≡ cells_told (request_on cells port value) cells))
  pub ipaqsuni_tables_ipaqsuni_tick : (cells samples : List ℕ) (supply a b closed : ℕ) → One5 (List ℕ) ℕ ℕ ℕ (λ r cells' a' b' closed'. (r ≡ number_of (tick_on cells samples supply).answer) × (cells' ≡ cells_told (tick_on cells samples supply) cells) × (a' ≡ mask_a_left (tick_on cells samples supply).answer a) × (b' ≡ mask_b_left (tick_on cells samples supply).answer b) × (closed' ≡ closed_left (tick_on cells samples supply).answer closed))
  pub ipaqsuni_tables_ipaqsuni_save : (cells image : List ℕ) → One2 (List ℕ) (λ r image'. (r ≡ number_of (save cells image)) × (image' ≡ room_after cells image))
  pub ipaqsuni_tables_ipaqsuni_restore : (cells image : List ℕ) → One2 (List ℕ) (λ r cells'. (r ≡ number_of (restore image cells)) × (cells' ≡ cells_restored image cells))
  pub ipaqsuni_frames_ipaqsuni_find_power_tlv : (pdu : List ℕ) (offset length : ℕ) → One3 ℕ ℕ (λ r offset' length'. (r ≡ number_of (search_of pdu)) × (offset' ≡ leaves offset_found (search_of pdu) offset) × (length' ≡ leaves size_found (search_of pdu) length))
  pub ipaqsuni_frames_ipaqsuni_read_power_tlv : (tlv fields : List ℕ) → One2 (List ℕ) (λ r fields'. (r ≡ number_of (read_of tlv)) × (fields' ≡ leaves numbers_of (read_of tlv) fields))
  pub ipaqsuni_frames_ipaqsuni_write_power_tlv : (fields room : List ℕ) (written : ℕ) → One3 (List ℕ) ℕ (λ r room' written'. (r ≡ number_of (write_call fields room)) × (room' ≡ leaves room_written (write_call fields room) room) × (written' ≡ leaves size_written (write_call fields room) written))
