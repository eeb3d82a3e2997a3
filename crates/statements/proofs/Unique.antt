-- What is proved of specs/Unique.
-- Assumes nothing.
use Prim.Native.Nat.{ℕ}
use mathlib.Core.Path.{◌≡◌, refl, sym, ◌∙◌, subst}
use mathlib.Core.Bool.{Bool}
use mathlib.Core.List.{List}
use lib.ListN.{take, drop, get_or}
use Rattle.std.specs.Prelude.{Option, Result}
use Rattle.lists.specs.Bytes.{word_at}
use Rattle.sizes.specs.Sizes.{most_ports}
use Rattle.sizes.specs.Refused.{number}
use Rattle.sizes.specs.declared.refusals.Refusal.{Refusal}
use Rattle.lists.specs.Places.{tabulate}
use Rattle.power.specs.Power.{at_most, same, supply_of, plus, join as joinSums, fits}
use Rattle.power.specs.declared.Power.{Power}
use Rattle.power.specs.declared.Sum.{Sum}
use Rattle.class.specs.Class.{class_of, class_of_two, budget_of, level_of, over_class}
use Rattle.sample.specs.Sample.{sample_of, flags_of}
use Rattle.signature.specs.Signature.{signature_of}
use Rattle.class.specs.declared.ClassReading.{ClassReading}
use Rattle.sample.specs.declared.Flags.{Flags}
use Rattle.sample.specs.declared.Sample.{Sample}
use Rattle.signature.specs.declared.Signature.{Signature}
use Rattle.control.specs.ByMask.{said_by}
use Rattle.control.specs.Control.{enable_of, pair_of, priority_of, refused}
use Rattle.enable.specs.Enable.{is_off, is_on, is_forced}
use Rattle.status.specs.Status.{join as joinLatches, status_word}
use Rattle.control.specs.declared.Enable.{Enable}
use Rattle.control.specs.declared.Pair.{Pair}
use Rattle.control.specs.declared.Priority.{Priority}
use Rattle.status.specs.declared.Latches.{Latches}
use Rattle.settling.specs.Claim.{rank_in, settled_as}
use Rattle.quick.specs.Sweep.{swept_left, swept_cells, swept_lane}
use Rattle.port.specs.States.{closed, code_of}
use Rattle.port.specs.Entry.{up, during, enter}
use Rattle.port.specs.Changes.{quietly, latching, asking}
use Rattle.diagram.specs.Step.{step}
use Rattle.port.specs.declared.form.Moved.{Moved}
use Rattle.port.specs.declared.form.Port.{Port}
use Rattle.port.specs.declared.form.Reading.{Reading}
use Rattle.port.specs.declared.form.State.{State}
use Rattle.share.specs.Given.{rank_of, demand_of}
use Rattle.share.specs.Share.{keeps}
use Rattle.share.specs.declared.Claim.{Claim}
use Rattle.table.specs.declared.form.Closed.{Closed}
use Rattle.cells.specs.Codes.{state_of, latches_of, latch_byte}
use Rattle.cells.specs.Lent.{cells_told, cells_cold}
use Rattle.well.specs.Judged.{head_cells, well_cells, port_named}
use Rattle.replies.specs.OnCells.{start_on, control_on, status_on, request_on}
use Rattle.block.specs.Digest.{digest}
use Rattle.block.specs.Flags.{flags_clean, flags_laid}
use Rattle.claims.specs.Claimed.{wanted_in, claims_in}
use Rattle.tally.specs.Tally.{drawn_in, closed_in, sides_in}
use Rattle.passes.specs.OnCells.{tick_on}
use Rattle.image.specs.Image.{imageable, save, room_after as imageAfter}
use Rattle.image.specs.Load.{restore, cells_restored}
use Rattle.header.specs.Header.{type_at, is_power}
use Rattle.fields.specs.Fields.{bad_values}
use Rattle.reader.specs.Read.{read_of}
use Rattle.search.specs.Search.{search_of}
use Rattle.walk.specs.Walk.{step_of}
use Rattle.writer.specs.Write.{written_of, room_after}
use Rattle.numbers.specs.Numbers.{no_fields, form_given}
use Rattle.fields.specs.declared.Fields.{Fields}
use Rattle.fields.specs.declared.Form.{Form}
use Rattle.search.specs.declared.Found.{Found}
use Rattle.walk.specs.declared.Step.{Step}
use Rattle.statements.specs.Unique.{One, OneWith, OneWithTwo, Walker, Unique}

one : (A : Type 0) (d : A) → One A (λ r. r ≡ d)
one A d r s p q = p ∙ sym q

walker : (pdu : List ℕ) (at : ℕ) → One Walker (λ r. (r.pdu ≡ pdu) × (r.at ≡ at))
walker pdu at r s p q = subst (λ x. r ≡ record { pdu = x; at = s.at }) (p.0 ∙ sym q.0) (subst (λ x. r ≡ record { pdu = r.pdu; at = x }) (p.1 ∙ sym q.1) refl)

with_room : (A B : Type 0) (d : A) (e : B) → OneWith A B (λ r b. (r ≡ d) × (b ≡ e))
with_room A B d e r s b c p q = (p.0 ∙ sym q.0, p.1 ∙ sym q.1)

with_two : (A B C : Type 0) (x : A) (y : B) (z : C) → OneWithTwo A B C (λ r b d. (r ≡ x) × (b ≡ y) × (d ≡ z))
with_two A B C x y z r s b c d e p q = (p.0 ∙ sym q.0, p.1 ∙ sym q.1, p.2 ∙ sym q.2)

pub unique : Unique
unique =
    record {
      sizes_refusals_number = λ self. one ℕ (number self);
      power_at_most = λ self other. one Bool (at_most self other);
      power_same = λ self other. one Bool (same self other);
      power_supply = λ figure. one (Result Power Refusal) (supply_of figure);
      power_plus = λ self a. one Sum (plus self a);
      power_join = λ self other. one Sum (joinSums self other);
      power_fits = λ self s. one Bool (fits self s);
      class_class_of = λ current. one (Option ℕ) (class_of current);
      class_class_of_two = λ c1 c2. one ClassReading (class_of_two c1 c2);
      class_by_class = λ table class. one ℕ (get_or table class 0);
      class_budget = λ c. one Power (budget_of c);
      class_level_of = λ value. one Power (level_of value);
      class_over_class = λ value class. one Bool (over_class value class);
      sample_sample_of = λ block p. one (Option Sample) (sample_of block p);
      sample_flags_of = λ word. one Flags (flags_of word);
      signature_signature_of = λ v1 v2 i1 i2. one Signature (signature_of v1 v2 i1 i2);
      control_enable_of = λ word. one Enable (enable_of word);
      control_pair_of = λ word. one Pair (pair_of word);
      control_priority_of = λ word. one Priority (priority_of word);
      control_by_mask = λ mask word. one Bool (said_by mask word);
      control_refused = λ word. one Bool (refused word);
      enable_is_off = λ enable. one Bool (is_off enable);
      enable_is_on = λ enable. one Bool (is_on enable);
      enable_is_forced = λ enable. one Bool (is_forced enable);
      status_join = λ self more. one Latches (joinLatches self more);
      status_status_word = λ l c k. one ℕ (status_word l c k);
      port_closed_is_closed = λ state. one Bool (closed state);
      port_entry_up = λ n. one ℕ (up n);
      port_entry_during = λ runs n. one ℕ (during runs n);
      port_entry_enter = λ to port. one Port (enter to port);
      port_entry_quietly = λ port. one Moved (quietly port);
      port_entry_latching = λ latched port. one Moved (latching latched port);
      port_entry_asking = λ port. one Moved (asking port);
      diagram_step = λ claim p reading. one Moved (step claim p reading);
      settling_rank_in = λ state control asks. one ℕ (rank_in state control asks);
      settling_settled_port = λ rank kept port. one Moved (settled_as rank kept port);
      quick_sweep = λ cells lane. with_two Bool (List ℕ) (List ℕ) (swept_left cells lane) (swept_cells cells lane) (swept_lane cells lane);
      share_kept = λ claims s. one (List Bool) (tabulate most_ports (keeps most_ports (rank_of claims) (demand_of claims) s.0));
      cells_state_of = λ code. one State (state_of code);
      cells_code_of = λ state. one ℕ (code_of state);
      cells_latches_of = λ cell. one Latches (latches_of cell);
      cells_latch_cell = λ latches. one ℕ (latch_byte latches);
      well_well_head = λ cells. one Bool (head_cells cells);
      well_well_made = λ cells. one Bool (well_cells cells);
      well_port_named = λ cells port. one (Result ℕ Refusal) (port_named cells port);
      calls_cold_start = λ cells ports. with_room (Result Unit Refusal) (List ℕ) (start_on cells ports).answer (cells_cold (start_on cells ports) cells);
      calls_write_control = λ cells port word. with_room (Result Unit Refusal) (List ℕ) (control_on cells port word).answer (cells_told (control_on cells port word) cells);
      calls_read_status = λ cells port. with_room (Result ℕ Refusal) (List ℕ) (status_on cells port).answer (cells_told (status_on cells port) cells);
      request_request = λ cells port value. with_room (Result Unit Refusal) (List ℕ) (request_on cells port value).answer (cells_told (request_on cells port value) cells);
      block_flags_into = λ block n lane. with_room Bool (List ℕ) (flags_clean n block lane) (flags_laid n block lane);
      block_digest_digest_of = λ sample. one Reading (digest sample);
      tally_drawn = λ cells n. one ℕ (drawn_in n cells);
      tally_closed_ports = λ cells n lane. with_room Closed (List ℕ) (closed_in n cells lane) (sides_in n cells lane);
      claims_wanted = λ cells n lane. one ℕ (wanted_in n lane cells);
      claims_claims_of = λ cells n lane. one (List Claim) (claims_in n lane cells);
      tick_tick = λ cells block figure. with_room (Result Closed Refusal) (List ℕ) (tick_on cells block figure).answer (cells_told (tick_on cells block figure) cells);
      header_word_at = λ bytes at. one ℕ (word_at bytes at);
      header_type_at = λ bytes at. one ℕ (type_at bytes at);
      header_length_at = λ bytes at r s p q. p.0 ∙ sym q.0;
      header_is_power = λ bytes at. one Bool (is_power bytes at);
      fields_bad_values = λ f. one Bool (bad_values f);
      reader_read = λ bytes. one (Result Fields Refusal) (read_of bytes);
      search_search = λ pdu. one (Result Found Refusal) (search_of pdu);
      search_part = λ pdu start size. one (List ℕ) (take size (drop start pdu));
      walk_new = λ pdu at. walker pdu at;
      walk_here = λ w. one Step (step_of w.pdu w.at);
      walk_tlv_at = λ pdu at. one Step (step_of pdu at);
      load_load = λ bytes cells. with_room (Result Unit Refusal) (List ℕ) (restore bytes cells) (cells_restored bytes cells);
      store_imageable = λ cells. one Bool (imageable cells);
      store_store = λ cells room. with_room (Result Unit Refusal) (List ℕ) (save cells room) (imageAfter cells room);
      writer_write = λ f room. with_room (Result ℕ Refusal) (List ℕ) (written_of f room) (room_after f room);
      numbers_no_fields = λ numbers. one Bool (no_fields numbers);
      numbers_form_given = λ numbers. one Form (form_given numbers);
    }
