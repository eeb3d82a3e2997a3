-- One possible answer: for each public function of the first demand's crates (`judge`, `ill`, `order`, `order_frames`, `first`) two results that obey its
-- promise are equal, with what they leave in what was lent. The promise stands here in the words of the source up to names, as in `Unique` of
-- the crate `statements`; `tools/public` compares.
-- Assumes nothing.
use Rattle.std.specs.Prelude.{ℕ, ◌≡◌, Bool, cond, not, ◌&&◌, List, eqb}
use Rattle.std.specs.Cmp.Lexicographic.{pointwise}
use Rattle.verdict.specs.declared.Verdict.{Verdict}
use Rattle.verdict.specs.declared.Verdict.TheVariants.{Held, NotAsked, Broken}
use Rattle.control.specs.Control.{refused}
use Rattle.cells.specs.Lent.{cells_told, cells_cold}
use Rattle.replies.specs.OnCells.{start_on, control_on, status_on, request_on}
use Rattle.passes.specs.OnCells.{tick_on}
use Rattle.reader.specs.Read.{read_refusals}
use Rattle.search.specs.Search.{search_refusals}
use Rattle.writer.specs.Write.{write_refusals, room_after}
use Rattle.fields.specs.declared.Fields.{Fields}
use Rattle.ill.specs.Ill.{ill_cells}
use Rattle.interface.specs.Statement1C.{first_number, start_list, control_list, status_list, request_list, tick_list}
use Rattle.judge.specs.Alike.{alike}

-- two results that obey the promise are equal
abbrev pub One : (A : Type 0) → (A → Type 0) → Type 0
One A promise = (r s : A) → promise r → promise s → r ≡ s

-- the same of a verdict and what lent cells or a lent room then hold
abbrev pub OneWith : (Verdict → List ℕ → Type 0) → Type 0
OneWith promise = (r s : Verdict) (b c : List ℕ) → promise r b → promise s c → (r ≡ s) × (b ≡ c)

-- and by whatever comparison the type of the elements brings, where these are numbers, as cells and bytes are
abbrev pub OneBy : (A : Type 0) → (A → (ℕ → ℕ → Bool) → Type 0) → Type 0
OneBy A promise = (eq : ℕ → ℕ → Bool) → One A (λ r. promise r eq)

pub record Unique : Type 0 where
  pub judge_same : (before after : List ℕ) → OneBy Bool (λ r eq. r ≡ pointwise eq before after)
  pub judge_answered : (due : ℕ) → One Verdict (λ r. r ≡ cond (eqb due 0) Held Broken)
  pub judge_refused : (due number : ℕ) (unchanged : Bool) → One Verdict (λ r. r ≡ cond ((eqb number due && not (eqb number 0)) && unchanged) Held Broken)
  pub ill_bad_word : (word : ℕ) → One Bool (λ r. r ≡ refused word)
  pub ill_ill_made : (cells : List ℕ) → One Bool (λ r. r ≡ ill_cells cells)
  pub order_start_start_number : (cells : List ℕ) (ports : ℕ) → One ℕ (λ r. r ≡ first_number (start_list cells ports))
  pub order_control_write_control_number : (cells : List ℕ) (port word : ℕ) → One ℕ (λ r. r ≡ first_number (control_list cells port word))
  pub order_status_read_status_number : (cells : List ℕ) (port : ℕ) → One ℕ (λ r. r ≡ first_number (status_list cells port))
  pub order_power_request_request_number : (cells : List ℕ) (port value : ℕ) → One ℕ (λ r. r ≡ first_number (request_list cells port value))
  pub order_ticking_tick_number : (cells block : List ℕ) (figure : ℕ) → One ℕ (λ r. r ≡ first_number (tick_list cells block figure))
  pub order_frames_search_number : (pdu : List ℕ) → One ℕ (λ r. r ≡ first_number (search_refusals pdu))
  pub order_frames_read_number : (bytes : List ℕ) → One ℕ (λ r. r ≡ first_number (read_refusals bytes))
  pub order_frames_write_number : (fields : Fields) (room : List ℕ) → One ℕ (λ r. r ≡ first_number (write_refusals fields room))
  pub first_tables_first_start : (cells before : List ℕ) (ports : ℕ) → OneWith (λ r cells'. (r ≡ cond (alike before cells) Held NotAsked) × (cells' ≡ cond (alike before cells) (cells_cold (start_on cells ports) cells) cells))
  pub first_tables_first_control : (cells before : List ℕ) (port word : ℕ) → OneWith (λ r cells'. (r ≡ cond (alike before cells) Held NotAsked) × (cells' ≡ cond (alike before cells) (cells_told (control_on cells port word) cells) cells))
  pub first_tables_first_status : (cells before : List ℕ) (port : ℕ) → OneWith (λ r cells'. (r ≡ cond (alike before cells) Held NotAsked) × (cells' ≡ cond (alike before cells) (cells_told (status_on cells port) cells) cells))
  pub first_tables_first_request : (cells before : List ℕ) (port value : ℕ) → OneWith (λ r cells'. (r ≡ cond (alike before cells) Held NotAsked) × (cells' ≡ cond (alike before cells) (cells_told (request_on cells port value) cells) cells))
  pub first_tables_first_tick : (cells before block : List ℕ) (figure : ℕ) → OneWith (λ r cells'. (r ≡ cond (alike before cells) Held NotAsked) × (cells' ≡ cond (alike before cells) (cells_told (tick_on cells block figure) cells) cells))
  pub first_frames_first_search : (pdu : List ℕ) → One Verdict (λ r. r ≡ Held)
  pub first_frames_first_read : (bytes : List ℕ) → One Verdict (λ r. r ≡ Held)
  pub first_frames_first_write : (fields : Fields) (room before : List ℕ) → OneWith (λ r room'. (r ≡ cond (alike before room) Held NotAsked) × (room' ≡ cond (alike before room) (room_after fields room) room))
