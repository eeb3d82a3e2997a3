-- What is proved of specs/Laws.
-- Assumes nothing.
use mathlib.Core.Path.{◌≡◌, refl, sym, ◌∙◌, ap}
use mathlib.Core.Bool.{Bool, true, false, cond, not, ◌&&◌}
use mathlib.Core.List.{List, [], ◌∷◌}
use Prim.Native.Nat.{ℕ, ◌+◌, ◌*◌, ◌≤◌, ◌<◌}
use native.Mathlib.Omega.{arith}
use lib.Dec.{eqb, leb, ltb}
use lib.ListN.{length, get_or, set, length-set, length-replicate}
use lib.Seq.{get_or-set_other}
use borrow.Author.Rules.{rules}
use borrow.Author.Tests.{eqb-true, eq-eqb, leb-false, ltb-false}
use Rattle.std.specs.Prelude.{Result, Ok, Err}
use Rattle.sizes.specs.Refused.{refused}
use Rattle.sizes.specs.Sizes.{most_ports}
use Rattle.sizes.specs.declared.refusals.Refusal.{Refusal}
use Rattle.lists.specs.Ladder.{ladder, Clear, Each}
use Rattle.lists.proofs.Ladder.{ladder_each}
use Rattle.lists.proofs.Places.{length_tabulate, get_d_tabulate}
use Rattle.lists.proofs.Tests.{choice}
use Rattle.lists.proofs.Tests.{and_left, and_right, fails_right, choice_on}
use Rattle.power.specs.Power.{tenths}
use Rattle.power.specs.declared.Power.{Power}
use Rattle.port.specs.declared.form.Port.{Port}
use Rattle.table.specs.Parts.{Told, port_at, with_port, done, refuse, tells}
use Rattle.table.proofs.Laws.{well_count}
use Rattle.table.specs.WellMade.{ill_made, well_made}
use Rattle.table.specs.declared.form.Closed.{Closed}
use Rattle.table.specs.declared.form.Table.{Table}
use Rattle.cells.specs.Cells.{cells_long, table_of, is_table, is_of_port, written, cells_with}
use Rattle.cells.proofs.Laws.{table_at}
use Rattle.cells.specs.Lent.{cells_told, cells_cold}
use Rattle.cells.proofs.Round.{cells_table, cells_are, with_table, with_are}
use Rattle.cells.proofs.Single.{with_port_other}
use Rattle.replies.specs.Calls.{cold_port, cold_table, cold_refusals, cold_start, control_refusals, write_control, status_refusals, status_at, read_status, request_refusals, request}
use Rattle.replies.specs.OnCells.{start_on, control_on, status_on, request_on}
use Rattle.boards.proofs.Laws.{port_past}
use Rattle.boards.specs.Masks.{answered}
use Rattle.boards.specs.Sharing.{port_after, table_after}
use Rattle.passes.specs.OnCells.{tick_on}
use Rattle.passes.specs.Tick.{moved_at, tick_refusals, tick}
use Rattle.image.specs.Image.{image_of, imageable, saves, save, room_after, image_long}
use Rattle.image.proofs.Laws.{image_reads, table_ports, saved_restored, restored_saves, restored_saved}
use Rattle.image.specs.Load.{port_in, table_in, reads, restores, restore, cells_restored}
use Rattle.reader.specs.Read.{read_refusals, read_of}
use Rattle.search.specs.Search.{search_refusals, search_of}
use Rattle.writer.specs.Write.{write_refusals, written_of, room_after as tlvAfter}
use Rattle.ipaqsuni.specs.Calls.{word_left, mask_a_left, mask_b_left, closed_left}
use Rattle.ipaqsuni.specs.Outcome.{number_of, leaves}
use Rattle.ipaqsuni.specs.Tlv.{of_write, fields_given, write_call}
use Rattle.numbers.specs.Numbers.{no_fields}
use Rattle.interface.specs.Laws.{RefusalLeaves, Are, Fair, Calls, Untouched, Images, Numbered, Frames}

module _ {A : Type 0} where
  cold_leaves : (a : Result A Refusal) (t : Table) (l : List ℕ) → (number_of a ≡ 0 → ⊥) → cells_cold (record { table = t; answer = a }) l ≡ l
  unfolding cells_cold
  cold_leaves (Ok x) t l h = absurd (h refl)
  cold_leaves (Err k) t l h = refl

  told_leaves : (a : Result A Refusal) (t : Table) (l : List ℕ) → (number_of a ≡ 0 → ⊥) → cells_told (record { table = t; answer = a }) l ≡ l
  unfolding cells_told
  told_leaves (Ok x) t l h = absurd (h refl)
  told_leaves (Err k) t l h = refl

word_stays : (a : Result ℕ Refusal) (word : ℕ) → (number_of a ≡ 0 → ⊥) → word_left a word ≡ word
word_stays (Ok w) word h = absurd (h refl)
word_stays (Err k) word h = refl

masks_stay : (c : Result Closed Refusal) (a b n : ℕ) → (number_of c ≡ 0 → ⊥) → (mask_a_left c a ≡ a) × (mask_b_left c b ≡ b) × (closed_left c n ≡ n)
masks_stay (Ok x) a b n h = absurd (h refl)
masks_stay (Err k) a b n h = (refl, refl, refl)

-- what a save and a restore answer, by what they ask
abbrev pub saving : Bool → Bool → Result Unit Refusal
saving a b = cond a (cond b (Ok tt) (refused 1)) (refused 13)

abbrev pub restoring : Bool → Result Unit Refusal
restoring a = cond a (Ok tt) (refused 13)

-- a room or cells that are not written
not_saved : (a b : Bool) (x y : List ℕ) → (number_of (saving a b) ≡ 0 → ⊥) → cond (a && b) x y ≡ y
not_saved true true x y h = absurd (h refl)
not_saved true false x y h = refl
not_saved false b x y h = refl

not_restored : (a : Bool) (x y : List ℕ) → (number_of (restoring a) ≡ 0 → ⊥) → cond a x y ≡ y
not_restored true x y h = absurd (h refl)
not_restored false x y h = refl

pub refusal_leaves : RefusalLeaves
unfolding save saves room_after restore cells_restored
refusal_leaves =
    record {
      cold = λ told l. cold_leaves told.answer told.table l;
      told = λ told l. told_leaves told.answer told.table l;
      read = λ told l word h. (told_leaves told.answer told.table l h, word_stays told.answer word h);
      ticked = λ told l a b n h. let m = masks_stay told.answer a b n h in (told_leaves told.answer told.table l h, m.0, m.1, m.2);
      saved = λ l room. not_saved (imageable l) (eqb (length room) image_long) (image_of (table_of l)) room;
      restored = λ bytes l. not_restored (restores bytes l) _ l;
    }

-- and of a call on a frame
pub refused_leaves : {X Y : Type 0} (f : X → Y) (o : Result X Refusal) (before : Y) → (number_of o ≡ 0 → ⊥) → leaves f o before ≡ before
refused_leaves f (Ok x) before h = absurd (h refl)
refused_leaves f (Err refusal) before h = refl

-- so that a call on them is a call on it: of `told_on`
pub next_call : {X : Type 0} (t : Table) (l : List ℕ) → Are t l → (call : Table → X) (none : X) → cond (is_table l) (call (table_of l)) none ≡ call t
next_call t l are call none = simp (are.0, are.1)

-- by the number: a call that answers 0 left the table that it told
pub zero_left : {A : Type 0} (a : Result A Refusal) (t : Table) (after : List ℕ) → Fair a t after → number_of a ≡ 0 → Are t after
zero_left (Ok x) t after fair e = fair
zero_left (Err refusal) t after fair e = absurd (omega arith)

module _ {X : Type 0} (P : X → Type 0) (refuse : ℕ → X) (value : X) where
  -- what holds of each refusal of a ladder, and of the value where no condition holds, holds of the answer
  ladder_fair : (rs : List (ℕ × Bool)) → Each P refuse value rs → (Clear rs → P value) → P (ladder rs refuse value)
  ladder_fair [] each goes = goes tt
  ladder_fair (r ∷ rs) each goes =
      choice_on P r.1 (refuse r.0) (ladder rs refuse value) (λ e. each.0) (λ e. ladder_fair rs each.1 (λ c. goes (e, c)))

few_ports : (t : Table) → ill_made t ≡ false → t.count ≤ most_ports
unfolding well_made
few_ports t e = well_count t (ap not e)

pub cold_are : (n : ℕ) → n ≤ most_ports → Are (cold_table n) (cells_cold (done (cold_table n)) [])
unfolding cold_table tells cells_cold
cold_are n few = (cells_are (cold_table n) few, cells_table (cold_table n) (length-replicate most_ports cold_port))

module _ (l : List ℕ) (was : is_table l ≡ true) (well : ill_made (table_of l) ≡ false) where
  -- another port below the count
  pub with_port_are : (p : ℕ) (x : Port) → leb (table_of l).count p ≡ false → Are (with_port p x (table_of l)) (cells_with (with_port p x (table_of l)) l)
  unfolding with_port table_of
  with_port_are p x below =
      let t = with_port p x (table_of l) in
      let h = leb-false (table_of l).count p below in
      let ports = length-set (table_of l).ports p x ∙ table_ports l in
      let past : (q : ℕ) → t.count ≤ q → q < most_ports → port_at t q ≡ port_at (table_of l) q = λ q k i. with_port_other l p x q (λ e. omega arith) i ∙ sym (table_at l q i) in
      (with_are t l was ports refl (few_ports (table_of l) well) past, with_table t l was ports refl (few_ports (table_of l) well) past)

  -- every port below the count moved and settled
  pub after_are : (block : List ℕ) (supply : Power) → Are (table_after (table_of l) (moved_at (table_of l) block) supply) (cells_with (table_after (table_of l) (moved_at (table_of l) block) supply) l)
  unfolding table_after table_of
  after_are block supply =
      let moved = moved_at (table_of l) block in
      let t = table_after (table_of l) moved supply in
      let ports = length_tabulate most_ports (port_after (table_of l) moved supply) in
      let past : (q : ℕ) → t.count ≤ q → q < most_ports → port_at t q ≡ port_at (table_of l) q = λ q k i. port_past (table_of l) moved supply q i k in
      (with_are t l was ports refl (few_ports (table_of l) well) past, with_table t l was ports refl (few_ports (table_of l) well) past)

module _ (l : List ℕ) where
  abbrev FairTold : {A : Type 0} → Told (Result A Refusal) → Type 0
  FairTold told = Fair told.answer told.table (cells_told told l)

  abbrev FairCold : Told (Result Unit Refusal) → Type 0
  FairCold told = Fair told.answer told.table (cells_cold told l)

  cold_fair : (n : ℕ) → FairCold (start_on l n)
  unfolding start_on cold_start tells refuse cells_cold
  cold_fair n =
      choice FairCold (eqb (length l) cells_long) _ (refuse 13 (table_of l))
      (ladder_fair FairCold (λ k. refuse k (cold_table 0)) (done (cold_table n)) (cold_refusals n) (search rules)
      (λ c. cold_are n (ltb-false most_ports n (fails_right (eqb n 0) (ltb most_ports n) c.0))))
      (omega arith)

  -- one of the calls that look at the table: what its ladder gives is fair
  on_table : {A : Type 0} (call : Told (Result A Refusal)) → (is_table l ≡ true → FairTold call) → FairTold (cond (is_table l) call (refuse 13 (table_of l)))
  unfolding refuse cells_told
  on_table call fair = choice_on FairTold (is_table l) call (refuse 13 (table_of l)) fair (λ e. omega arith)

  control_fair : (p w : ℕ) → FairTold (control_on l p w)
  unfolding control_on write_control tells refuse cells_told
  control_fair p w =
      on_table (write_control (table_of l) p w)
      (λ was. ladder_fair FairTold (λ k. refuse k (table_of l)) _ (control_refusals (table_of l) p w) (search rules) (λ c. with_port_are l was c.0 p _ c.1.0))

  status_fair : (p : ℕ) → FairTold (status_on l p)
  unfolding status_on read_status status_at tells refuse cells_told
  status_fair p =
      on_table (read_status (table_of l) p)
      (λ was. ladder_fair FairTold (λ k. refuse k (table_of l)) _ (status_refusals (table_of l) p) (search rules) (λ c. with_port_are l was c.0 p _ c.1.0))

  request_fair : (p v : ℕ) → FairTold (request_on l p v)
  unfolding request_on request tells refuse cells_told
  request_fair p v =
      on_table (request (table_of l) p v)
      (λ was. ladder_fair FairTold (λ k. refuse k (table_of l)) _ (request_refusals (table_of l) p v) (search rules) (λ c. with_port_are l was c.0 p _ c.1.0))

  tick_fair : (block : List ℕ) (figure : ℕ) → FairTold (tick_on l block figure)
  unfolding tick_on tick answered tells refuse cells_told
  tick_fair block figure =
      on_table (tick (table_of l) block figure)
      (λ was. ladder_fair FairTold (λ k. refuse k (table_of l)) _ (tick_refusals (table_of l) block figure) (search rules) (λ c. after_are l was c.0 block (tenths figure)))

pub calls : Calls
calls = record { cold_start = cold_fair; write_control = control_fair; read_status = status_fair; request = request_fair; tick = tick_fair }

module _ (t : Table) (l : List ℕ) (k : ℕ) (h : k < length l) (e : is_of_port t.count k ≡ false) (n : k ≡ 1 → ⊥) where
  with_untouched : get_or (cells_with t l) k 0 ≡ get_or l k 0
  unfolding cells_with written
  with_untouched =
      get_d_tabulate (length (set l 1 t.supply.0)) _ 0 k (omega (arith, length-set l 1 t.supply.0))
      ∙ simp e (get_or-set_other l 1 k t.supply.0 0 n)

  told_untouched : {A : Type 0} (a : Result A Refusal) → get_or (cells_told (record { table = t; answer = a }) l) k 0 ≡ get_or l k 0
  unfolding cells_told
  told_untouched (Ok x) = with_untouched
  told_untouched (Err refusal) = refl

pub untouched : Untouched
untouched =
    record {
      told = λ told l k h e n. told_untouched told.table l k h e n told.answer;
      read = λ told l k h e n. told_untouched told.table l k h e n told.answer;
      ticked = λ told l k h e n. told_untouched told.table l k h e n told.answer;
    }

zero_both : (a b : Bool) → number_of (saving a b) ≡ 0 → (a && b) ≡ true
zero_both true true e = refl
zero_both true false e = absurd (omega arith)
zero_both false b e = absurd (omega arith)

zero_one : (a : Bool) → number_of (restoring a) ≡ 0 → a ≡ true
zero_one true e = refl
zero_one false e = absurd (omega arith)

zero_saves : (l room : List ℕ) → number_of (save l room) ≡ 0 → saves l room ≡ true
unfolding save saves
zero_saves l room = zero_both (imageable l) (eqb (length room) image_long)

saves_zero : (l room : List ℕ) → saves l room ≡ true → number_of (save l room) ≡ 0
unfolding save saves
saves_zero l room e = simp (and_left (imageable l) (eqb (length room) image_long) e, and_right (imageable l) (eqb (length room) image_long) e)

zero_restores : (bytes l : List ℕ) → number_of (restore bytes l) ≡ 0 → restores bytes l ≡ true
unfolding restore
zero_restores bytes l = zero_one (restores bytes l)

save_image : (l room : List ℕ) → number_of (save l room) ≡ 0 → room_after l room ≡ image_of (table_of l)
unfolding room_after
save_image l room e = simp (zero_saves l room e)

image_zero : (t : Table) (m : List ℕ) → length m ≡ cells_long → number_of (restore (image_of t) m) ≡ 0
unfolding restore restores
image_zero t m fits = simp (image_reads t, eq-eqb _ _ fits)

module _ (bytes l : List ℕ) (zero : number_of (restore bytes l) ≡ 0) where
  restore_reads : reads bytes ≡ true
  unfolding restores
  restore_reads = and_left (reads bytes) (eqb (length l) cells_long) (zero_restores bytes l zero)

  restore_long : length l ≡ cells_long
  unfolding restores
  restore_long = eqb-true (length l) cells_long (and_right (reads bytes) (eqb (length l) cells_long) (zero_restores bytes l zero))

  restore_table : table_of (cells_restored bytes l) ≡ table_in bytes
  unfolding cells_restored table_in
  restore_table = simp (zero_restores bytes l zero) (cells_table (table_in bytes) (length_tabulate most_ports (λ p. port_in bytes (6 + 21 * p))))

  restore_are : (table_in bytes).count ≤ most_ports → is_table (cells_restored bytes l) ≡ true
  unfolding cells_restored
  restore_are few = simp (zero_restores bytes l zero) (cells_are (table_in bytes) few)

pub images : Images
images =
    record {
      saved = save_image;
      back = λ l room m e fits. (rw (save_image l room e) (image_zero (table_of l) m fits), saved_restored l room m (zero_saves l room e) fits);
      restored = restore_table;
      table = restore_are;
      again = λ bytes l room octets e spare.
          let long = restore_long bytes l e in
          let read = restore_reads bytes l e in
          (saves_zero (cells_restored bytes l) room (restored_saves bytes octets read l room long spare), restored_saved bytes octets read l room long spare);
    }

pub frames : Frames
unfolding search_of read_of write_call written_of
frames =
    record {
      find = λ pdu. ladder_each Numbered refused _ (search_refusals pdu) (search rules) tt;
      read = λ tlv. ladder_each Numbered refused _ (read_refusals tlv) (search rules) tt;
      write = λ n room.
          let f = fields_given n in
          choice Numbered (no_fields n) _ _ (omega arith)
          (ladder_each (λ w. Numbered (of_write (tlvAfter f room) w)) refused _ (write_refusals f room) (search rules) tt);
    }
