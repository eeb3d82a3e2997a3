-- What is proved of specs/Statement1C.
-- Assumes nothing.
use Prim.Native.Nat.{ℕ, ◌≤◌}
use mathlib.Core.Path.{◌≡◌, refl}
use mathlib.Core.Bool.{Bool, true, false, cond, not, ◌&&◌}
use mathlib.Core.List.{List, [], ◌∷◌}
use native.Mathlib.Omega.{arith}
use lib.Dec.{eqb}
use lib.ListN.{length}
use Rattle.std.specs.Prelude.{Result, Ok}
use Rattle.sizes.specs.Refused.{refused}
use Rattle.sizes.specs.declared.refusals.Refusal.{Refusal}
use Rattle.lists.specs.Ladder.{Clear}
use Rattle.lists.proofs.Ladder.{ladder_part}
use Rattle.table.specs.Parts.{Told, refuse, tells}
use Rattle.cells.specs.Cells.{cells_long, table_of, is_table}
use Rattle.replies.specs.Calls.{cold_table, cold_refusals, cold_start, control_refusals, write_control, status_refusals, status_at, read_status, request_refusals, request}
use Rattle.replies.specs.OnCells.{start_on, control_on, status_on, request_on}
use Rattle.boards.specs.Masks.{answered}
use Rattle.passes.specs.OnCells.{tick_on}
use Rattle.passes.specs.Tick.{tick_refusals, tick}
use Rattle.image.specs.Image.{imageable, save as save_call, image_long}
use Rattle.image.specs.Load.{reads, restores, restore as restore_call}
use Rattle.reader.specs.Read.{read_refusals, read_of}
use Rattle.search.specs.Search.{search_refusals, search_of}
use Rattle.writer.specs.Write.{write_refusals, written_of, room_after as tlvAfter}
use Rattle.fields.specs.declared.Fields.{Fields}
use Rattle.interface.proofs.Laws.{saving, restoring, refusal_leaves, refused_leaves}
use Rattle.ipaqsuni.specs.Outcome.{number_of}
use Rattle.ipaqsuni.specs.Tlv.{of_write, offset_found, size_found, numbers_of, fields_given, write_call, room_written, size_written}
use Rattle.numbers.specs.Numbers.{no_fields}
use Rattle.interface.specs.Statement1C.{first_number, start_list, control_list, status_list, request_list, tick_list, save_list, restore_list, write_list, FirstC}

-- no refusal of the list is numbered 0
abbrev pub Named : List (ℕ × Bool) → Type 0
Named [] = Unit {0}
Named (r ∷ rs) = (1 ≤ r.0) × Named rs

-- 0 is answered only if no condition holds; the numbers of each list above are its own literals, and none is 0
pub none_holds : (rs : List (ℕ × Bool)) → Named rs → first_number rs ≡ 0 → Clear rs
none_holds [] named e = tt
none_holds (r ∷ rs) named e = go r.1 refl e (none_holds rs named.1)
  where
    go : (b : Bool) → r.1 ≡ b → cond b r.0 (first_number rs) ≡ 0 → (first_number rs ≡ 0 → Clear rs) → Clear (r ∷ rs)
    go true q z rest = absurd (omega (arith, named.0))
    go false q z rest = (q, rest z)

-- ---- the proofs

-- what is no table is refused with 13 before the call's own list
no_table : {X : Type 0} (number : X → ℕ) (is : Bool) (call none : X) (rs : List (ℕ × Bool)) → number call ≡ first_number rs → number none ≡ 13
    → number (cond is call none) ≡ first_number ((13, not is) ∷ rs)
no_table number true call none rs e f = e
no_table number false call none rs e f = f

abbrev told_number : {A : Type 0} → Told (Result A Refusal) → ℕ
told_number r = number_of r.answer

cold_number : (cells : List ℕ) (ports : ℕ) → number_of (start_on cells ports).answer ≡ first_number (start_list cells ports)
unfolding start_on cold_start tells refuse
cold_number cells ports =
    no_table told_number (eqb (length cells) cells_long) (cold_start ports) (refuse 13 (table_of cells)) (cold_refusals ports)
    (ladder_part told_number (λ k. refuse k (cold_table 0)) _ (cold_refusals ports)) refl

module _ (cells : List ℕ) where
  control_number : (port word : ℕ) → number_of (control_on cells port word).answer ≡ first_number (control_list cells port word)
  unfolding control_on write_control tells refuse
  control_number port word =
      no_table told_number (is_table cells) (write_control (table_of cells) port word) (refuse 13 (table_of cells)) (control_refusals (table_of cells) port word)
      (ladder_part told_number (λ k. refuse k (table_of cells)) _ (control_refusals (table_of cells) port word)) refl

  status_number : (port : ℕ) → number_of (status_on cells port).answer ≡ first_number (status_list cells port)
  unfolding status_on read_status status_at tells refuse
  status_number port =
      no_table told_number (is_table cells) (read_status (table_of cells) port) (refuse 13 (table_of cells)) (status_refusals (table_of cells) port)
      (ladder_part told_number (λ k. refuse k (table_of cells)) _ (status_refusals (table_of cells) port)) refl

  request_number : (port value : ℕ) → number_of (request_on cells port value).answer ≡ first_number (request_list cells port value)
  unfolding request_on request tells refuse
  request_number port value =
      no_table told_number (is_table cells) (request (table_of cells) port value) (refuse 13 (table_of cells)) (request_refusals (table_of cells) port value)
      (ladder_part told_number (λ k. refuse k (table_of cells)) _ (request_refusals (table_of cells) port value)) refl

  tick_number : (samples : List ℕ) (supply : ℕ) → number_of (tick_on cells samples supply).answer ≡ first_number (tick_list cells samples supply)
  unfolding tick_on tick answered tells refuse
  tick_number samples supply =
      no_table told_number (is_table cells) (tick (table_of cells) samples supply) (refuse 13 (table_of cells)) (tick_refusals (table_of cells) samples supply)
      (ladder_part told_number (λ k. refuse k (table_of cells)) _ (tick_refusals (table_of cells) samples supply)) refl

-- two conditions of an image
two : (a b : Bool) → number_of (saving a b) ≡ first_number ((13, not a) ∷ (1, not b) ∷ [])
two true true = refl
two true false = refl
two false b = refl

both : (a b : Bool) → number_of (restoring (a && b)) ≡ first_number ((13, not a) ∷ (13, not b) ∷ [])
both true true = refl
both true false = refl
both false b = refl

save_number : (cells image : List ℕ) → number_of (save_call cells image) ≡ first_number (save_list cells image)
unfolding save_call
save_number cells image = two (imageable cells) (eqb (length image) image_long)

restore_number : (cells image : List ℕ) → number_of (restore_call image cells) ≡ first_number (restore_list image cells)
unfolding restore_call restores
restore_number cells image = both (reads image) (eqb (length cells) cells_long)

find_number : (pdu : List ℕ) → number_of (search_of pdu) ≡ first_number (search_refusals pdu)
unfolding search_of
find_number pdu = ladder_part number_of refused _ (search_refusals pdu)

read_number : (tlv : List ℕ) → number_of (read_of tlv) ≡ first_number (read_refusals tlv)
unfolding read_of
read_number tlv = ladder_part number_of refused _ (read_refusals tlv)

-- of any fields, those that no nine numbers give among them
pub written_number : (f : Fields) (room after : List ℕ) → number_of (of_write after (written_of f room)) ≡ first_number (write_refusals f room)
unfolding written_of
written_number f room after = ladder_part (λ w. number_of (of_write after w)) refused _ (write_refusals f room)

write_number : (fields room : List ℕ) → number_of (write_call fields room) ≡ first_number (write_list fields room)
unfolding write_call
write_number fields room = go (no_fields fields)
  where
    f : Fields
    f = fields_given fields

    go : (b : Bool) → number_of (cond b (refused 3) (of_write (tlvAfter f room) (written_of f room))) ≡ first_number ((3, b) ∷ write_refusals f room)
    go true = refl
    go false = written_number f room (tlvAfter f room)

pub statement_1_c : FirstC
statement_1_c =
    record {
      cold_start = cold_number;
      write_control = control_number;
      read_status = status_number;
      request = request_number;
      tick = tick_number;
      save = save_number;
      restore = restore_number;
      find = find_number;
      read = read_number;
      write = write_number;
      cold_start_kept = λ cells ports. refusal_leaves.cold (start_on cells ports) cells;
      write_control_kept = λ cells port word. refusal_leaves.told (control_on cells port word) cells;
      read_status_kept = λ cells port status. refusal_leaves.read (status_on cells port) cells status;
      request_kept = λ cells port value. refusal_leaves.told (request_on cells port value) cells;
      tick_kept = λ cells samples supply. refusal_leaves.ticked (tick_on cells samples supply) cells;
      save_kept = refusal_leaves.saved;
      restore_kept = λ cells image. refusal_leaves.restored image cells;
      find_kept = λ pdu offset length h. (refused_leaves offset_found (search_of pdu) offset h, refused_leaves size_found (search_of pdu) length h);
      read_kept = λ tlv fields. refused_leaves numbers_of (read_of tlv) fields;
      write_kept = λ fields room written h. (refused_leaves room_written (write_call fields room) room h, refused_leaves size_written (write_call fields room) written h);
    }
