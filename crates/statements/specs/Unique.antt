-- One possible answer: for each public function of the core, two results that obey its promise are equal. The promise stands here in the
-- words of the source up to names, with what a slice holds on entry by the slice's name and on exit by the name with a prime; `tools/public` reads the
-- public functions off the sources, and fails if one is missing here or promises something else.
-- Assumes nothing.
use Rattle.std.specs.Prelude.{ℕ, ◌<◌, ◌^◌, ◌≡◌, Bool, List, take, drop, get_or, Option, Result}
use Rattle.lists.specs.Bytes.{word_at}
use Rattle.sizes.specs.Sizes.{most_ports}
use Rattle.sizes.specs.Refused.{number}
use Rattle.sizes.specs.declared.refusals.Refusal.{Refusal}
use Rattle.lists.specs.Places.{tabulate}
use Rattle.power.specs.Power.{at_most, same, supply_of, plus, join as joinSums, fits}
use Rattle.power.specs.declared.Power.{Power}
use Rattle.power.specs.declared.Sum.{Sum}
use Rattle.class.specs.Class.{class_of, class_of_two, budget_of, level_of, over_class}
use Rattle.sample.specs.Sample.{sample_of, flags_of}
use Rattle.signature.specs.Signature.{signature_of}
use Rattle.class.specs.declared.ClassReading.{ClassReading}
use Rattle.sample.specs.declared.Flags.{Flags}
use Rattle.sample.specs.declared.Sample.{Sample}
use Rattle.signature.specs.declared.Signature.{Signature}
use Rattle.control.specs.ByMask.{said_by}
use Rattle.control.specs.Control.{enable_of, pair_of, priority_of, refused}
use Rattle.enable.specs.Enable.{is_off, is_on, is_forced}
use Rattle.status.specs.Status.{join as joinLatches, status_word}
use Rattle.control.specs.declared.Enable.{Enable}
use Rattle.control.specs.declared.Pair.{Pair}
use Rattle.control.specs.declared.Priority.{Priority}
use Rattle.status.specs.declared.Condition.{Condition}
use Rattle.status.specs.declared.Latches.{Latches}
use Rattle.settling.specs.Claim.{rank_in, settled_as}
use Rattle.quick.specs.Sweep.{swept_left, swept_cells, swept_lane}
use Rattle.port.specs.States.{closed, code_of}
use Rattle.port.specs.Entry.{up, during, enter}
use Rattle.port.specs.Changes.{quietly, latching, asking}
use Rattle.diagram.specs.Step.{step}
use Rattle.port.specs.declared.form.Moved.{Moved}
use Rattle.port.specs.declared.form.Port.{Port}
use Rattle.port.specs.declared.form.Reading.{Reading}
use Rattle.port.specs.declared.form.State.{State}
use Rattle.share.specs.Given.{rank_of, demand_of}
use Rattle.share.specs.Share.{keeps}
use Rattle.share.specs.declared.Claim.{Claim}
use Rattle.table.specs.declared.form.Closed.{Closed}
use Rattle.cells.specs.Codes.{state_of, latches_of, latch_byte}
use Rattle.cells.specs.Lent.{cells_told, cells_cold}
use Rattle.well.specs.Judged.{head_cells, well_cells, port_named}
use Rattle.replies.specs.OnCells.{start_on, control_on, status_on, request_on}
use Rattle.block.specs.Digest.{digest}
use Rattle.block.specs.Flags.{flags_clean, flags_laid}
use Rattle.claims.specs.Claimed.{wanted_in, claims_in}
use Rattle.tally.specs.Tally.{drawn_in, closed_in, sides_in}
use Rattle.passes.specs.OnCells.{tick_on}
use Rattle.image.specs.Image.{imageable, save, room_after as imageAfter}
use Rattle.image.specs.Load.{restore, cells_restored}
use Rattle.header.specs.Header.{type_at, length_at, is_power}
use Rattle.fields.specs.Fields.{bad_values}
use Rattle.reader.specs.Read.{read_of}
use Rattle.search.specs.Search.{search_of}
use Rattle.walk.specs.Walk.{step_of}
use Rattle.writer.specs.Write.{written_of, room_after}
use Rattle.numbers.specs.Numbers.{no_fields, form_given}
use Rattle.fields.specs.declared.Fields.{Fields}
use Rattle.fields.specs.declared.Form.{Form}
use Rattle.search.specs.declared.Found.{Found}
use Rattle.walk.specs.declared.Step.{Step}

-- two results that obey the promise are equal
abbrev pub One : (A : Type 0) → (A → Type 0) → Type 0
One A promise = (r s : A) → promise r → promise s → r ≡ s

-- the same of a result and what lent cells or a lent buffer then hold
abbrev pub OneWith : (A B : Type 0) → (A → B → Type 0) → Type 0
OneWith A B promise = (r s : A) (b c : B) → promise r b → promise s c → (r ≡ s) × (b ≡ c)

-- and of two such
abbrev pub OneWithTwo : (A B C : Type 0) → (A → B → C → Type 0) → Type 0
OneWithTwo A B C promise = (r s : A) (b c : B) (d e : C) → promise r b d → promise s c e → (r ≡ s) × (b ≡ c) × (d ≡ e)

-- a walker: the bytes that it was lent, and its position
pub record Walker : Type 0 where
  pub pdu : List ℕ
  pub at : ℕ

pub record Unique : Type 0 where
  pub sizes_refusals_number : (self : Refusal) → One ℕ (λ r. r ≡ number self)
  pub power_at_most : (self other : Power) → One Bool (λ r. r ≡ at_most self other)
  pub power_same : (self other : Power) → One Bool (λ r. r ≡ same self other)
  pub power_supply : (figure : ℕ) → One (Result Power Refusal) (λ r. r ≡ supply_of figure)
  pub power_plus : (self : Sum) (a : Power) → One Sum (λ r. r ≡ plus self a)
  pub power_join : (self other : Sum) → One Sum (λ r. r ≡ joinSums self other)
  pub power_fits : (self : Sum) (s : Power) → One Bool (λ r. r ≡ fits self s)
  pub class_class_of : (current : ℕ) → One (Option ℕ) (λ r. r ≡ class_of current)
  pub class_class_of_two : (c1 c2 : ℕ) → One ClassReading (λ r. r ≡ class_of_two c1 c2)
  pub class_by_class : (table : List ℕ) (class : ℕ) → One ℕ (λ r. r ≡ get_or table class 0)
  pub class_budget : (c : ℕ) → One Power (λ r. r ≡ budget_of c)
  pub class_level_of : (value : ℕ) → One Power (λ r. r ≡ level_of value)
  pub class_over_class : (value class : ℕ) → One Bool (λ r. r ≡ over_class value class)
  pub sample_sample_of : (block : List ℕ) (p : ℕ) → One (Option Sample) (λ r. r ≡ sample_of block p)
  pub sample_flags_of : (word : ℕ) → One Flags (λ r. r ≡ flags_of word)
  pub signature_signature_of : (v1 v2 i1 i2 : ℕ) → One Signature (λ r. r ≡ signature_of v1 v2 i1 i2)
  pub control_enable_of : (word : ℕ) → One Enable (λ r. r ≡ enable_of word)
  pub control_pair_of : (word : ℕ) → One Pair (λ r. r ≡ pair_of word)
  pub control_priority_of : (word : ℕ) → One Priority (λ r. r ≡ priority_of word)
  pub control_by_mask : (mask word : ℕ) → One Bool (λ r. r ≡ said_by mask word)
  pub control_refused : (word : ℕ) → One Bool (λ r. r ≡ refused word)
  pub enable_is_off : (enable : Enable) → One Bool (λ r. r ≡ is_off enable)
  pub enable_is_on : (enable : Enable) → One Bool (λ r. r ≡ is_on enable)
  pub enable_is_forced : (enable : Enable) → One Bool (λ r. r ≡ is_forced enable)
  pub status_join : (self more : Latches) → One Latches (λ r. r ≡ joinLatches self more)
  pub status_status_word : (l : Latches) (c : ℕ) (k : Condition) → One ℕ (λ r. r ≡ status_word l c k)
  pub port_closed_is_closed : (state : State) → One Bool (λ r. r ≡ closed state)
  pub port_entry_up : (n : ℕ) → One ℕ (λ r. r ≡ up n)
  pub port_entry_during : (runs : Bool) (n : ℕ) → One ℕ (λ r. r ≡ during runs n)
  pub port_entry_enter : (to : State) (port : Port) → One Port (λ r. r ≡ enter to port)
  pub port_entry_quietly : (port : Port) → One Moved (λ r. r ≡ quietly port)
  pub port_entry_latching : (latched : Latches) (port : Port) → One Moved (λ r. r ≡ latching latched port)
  pub port_entry_asking : (port : Port) → One Moved (λ r. r ≡ asking port)
  pub diagram_step : (claim : Power) (p : Port) (reading : Reading) → One Moved (λ r. r ≡ step claim p reading)
  pub settling_rank_in : (state : State) (control : ℕ) (asks : Bool) → One ℕ (λ r. r ≡ rank_in state control asks)
  pub settling_settled_port : (rank : ℕ) (kept : Bool) (port : Port) → One Moved (λ r. r ≡ settled_as rank kept port)
  pub quick_sweep : (cells lane : List ℕ) → OneWithTwo Bool (List ℕ) (List ℕ) (λ r cells' lane'. (r ≡ swept_left cells lane) × (cells' ≡ swept_cells cells lane) × (lane' ≡ swept_lane cells lane))
  pub share_kept : (claims : List Claim) (s : Power) → One (List Bool) (λ r. r ≡ tabulate most_ports (keeps most_ports (rank_of claims) (demand_of claims) s.0))
  pub cells_state_of : (code : ℕ) → One State (λ r. r ≡ state_of code)
  pub cells_code_of : (state : State) → One ℕ (λ r. r ≡ code_of state)
  pub cells_latches_of : (cell : ℕ) → One Latches (λ r. r ≡ latches_of cell)
  pub cells_latch_cell : (latches : Latches) → One ℕ (λ r. r ≡ latch_byte latches)
  pub well_well_head : (cells : List ℕ) → One Bool (λ r. r ≡ head_cells cells)
  pub well_well_made : (cells : List ℕ) → One Bool (λ r. r ≡ well_cells cells)
  pub well_port_named : (cells : List ℕ) (port : ℕ) → One (Result ℕ Refusal) (λ r. r ≡ port_named cells port)
  pub calls_cold_start : (cells : List ℕ) (ports : ℕ) → OneWith (Result Unit Refusal) (List ℕ) (λ r cells'. (r ≡ (start_on cells ports).answer) × (cells' ≡ cells_cold (start_on cells ports) cells))
  pub calls_write_control : (cells : List ℕ) (port word : ℕ) → OneWith (Result Unit Refusal) (List ℕ) (λ r cells'. (r ≡ (control_on cells port word).answer) × (cells' ≡ cells_told (control_on cells port word) cells))
  pub calls_read_status : (cells : List ℕ) (port : ℕ) → OneWith (Result ℕ Refusal) (List ℕ) (λ r cells'. (r ≡ (status_on cells port).answer) × (cells' ≡ cells_told (status_on cells port) cells))
  pub request_request : (cells : List ℕ) (port value : ℕ) → OneWith (Result Unit Refusal) (List ℕ) (λ r cells'. (r ≡ (request_on cells port value).answer) × (cells' ≡ cells_told (request_on cells port value) cells))
  pub block_flags_into : (block : List ℕ) (n : ℕ) (lane : List ℕ) → OneWith Bool (List ℕ) (λ r lane'. (r ≡ flags_clean n block lane) × (lane' ≡ flags_laid n block lane))
  pub block_digest_digest_of : (sample : Sample) → One Reading (λ r. r ≡ digest sample)
  pub tally_drawn : (cells : List ℕ) (n : ℕ) → One ℕ (λ r. r ≡ drawn_in n cells)
  pub tally_closed_ports : (cells : List ℕ) (n : ℕ) (lane : List ℕ) → OneWith Closed (List ℕ) (λ r lane'. (r ≡ closed_in n cells lane) × (lane' ≡ sides_in n cells lane))
  pub claims_wanted : (cells : List ℕ) (n : ℕ) (lane : List ℕ) → One ℕ (λ r. r ≡ wanted_in n lane cells)
  pub claims_claims_of : (cells : List ℕ) (n : ℕ) (lane : List ℕ) → One (List Claim) (λ r. r ≡ claims_in n lane cells)
  pub tick_tick : (cells block : List ℕ) (figure : ℕ) → OneWith (Result Closed Refusal) (List ℕ) (λ r cells'. (r ≡ (tick_on cells block figure).answer) × (cells' ≡ cells_told (tick_on cells block figure) cells))
  pub header_word_at : (bytes : List ℕ) (at : ℕ) → One ℕ (λ r. r ≡ word_at bytes at)
  pub header_type_at : (bytes : List ℕ) (at : ℕ) → One ℕ (λ r. r ≡ type_at bytes at)
  pub header_length_at : (bytes : List ℕ) (at : ℕ) → One ℕ (λ r. (r ≡ length_at bytes at) × (r < 2 ^ 9))
  pub header_is_power : (bytes : List ℕ) (at : ℕ) → One Bool (λ r. r ≡ is_power bytes at)
  pub fields_bad_values : (f : Form) → One Bool (λ r. r ≡ bad_values f)
  pub reader_read : (bytes : List ℕ) → One (Result Fields Refusal) (λ r. r ≡ read_of bytes)
  pub search_search : (pdu : List ℕ) → One (Result Found Refusal) (λ r. r ≡ search_of pdu)
  -- of the part that is handed back, its bytes
  pub search_part : (pdu : List ℕ) (start size : ℕ) → One (List ℕ) (λ r. r ≡ take size (drop start pdu))
  pub walk_new : (pdu : List ℕ) (at : ℕ) → One Walker (λ r. (r.pdu ≡ pdu) × (r.at ≡ at))
  pub walk_here : (w : Walker) → One Step (λ s. s ≡ step_of w.pdu w.at)
  pub walk_tlv_at : (pdu : List ℕ) (at : ℕ) → One Step (λ s. s ≡ step_of pdu at)
  pub writer_write : (f : Fields) (room : List ℕ) → OneWith (Result ℕ Refusal) (List ℕ) (λ r room'. (r ≡ written_of f room) × (room' ≡ room_after f room))
  pub numbers_no_fields : (numbers : List ℕ) → One Bool (λ r. r ≡ no_fields numbers)
  pub numbers_form_given : (numbers : List ℕ) → One Form (λ r. r ≡ form_given numbers)
  pub load_load : (bytes cells : List ℕ) → OneWith (Result Unit Refusal) (List ℕ) (λ r cells'. (r ≡ restore bytes cells) × (cells' ≡ cells_restored bytes cells))
  pub store_imageable : (cells : List ℕ) → One Bool (λ r. r ≡ imageable cells)
  pub store_store : (cells room : List ℕ) → OneWith (Result Unit Refusal) (List ℕ) (λ r room'. (r ≡ save cells room) × (room' ≡ imageAfter cells room))
