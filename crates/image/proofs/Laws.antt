-- A table reads back as it was written, an image that reads is rewritten the same, and cells that were saved and restored are the table that
-- they were.
-- Assumes nothing.
use mathlib.Core.Path.{◌≡◌, refl, sym, ◌∙◌, ap, ap₂}
use mathlib.Core.Bool.{Bool, true, false, cond, ◌&&◌}
use mathlib.Core.List.{List, [], ◌∷◌, ◌++◌}
use mathlib.Core.Logic.{⊎_elim}
use Prim.Native.Nat.{ℕ, ◌+◌, ◌-◌, ◌*◌, ◌/◌, ◌%◌, ◌≤◌, ◌<◌}
use native.Mathlib.Omega.{arith}
use lib.Dec.{eqb}
use lib.ListN.{length, get_or}
use borrow.Author.Tests.{lt-ltb, le-ltb, le-leb, leb-true, eq-eqb, eqb-true}
use Rattle.lists.specs.Bytes.{word_at}
use Rattle.std.proofs.Common.{Ok, is_ok}
use Rattle.sizes.specs.Refused.{refused}
use Rattle.sizes.specs.Sizes.{most_ports}
use Rattle.sizes.specs.declared.refusals.Refusal.{Refusal}
use Rattle.lists.proofs.Every.{every_of}
use Rattle.lists.specs.Places.{tabulate}
use Rattle.lists.proofs.Places.{side, length_tabulate, get_d_tabulate, tabulated}
use Rattle.lists.proofs.Tests.{and_left, and_right}
use Rattle.power.specs.Power.{tenths}
use Rattle.port.specs.declared.form.Port.{Port}
use Rattle.table.specs.Parts.{no_port, port_at}
use Rattle.table.specs.declared.form.Table.{Table}
use Rattle.cells.specs.Cells.{port_of, table_of, cells_of, cells_long}
use Rattle.cells.proofs.CodeLaws.{state_back, code_small, code_again, latches_back, latches_again}
use Rattle.cells.specs.Codes.{state_of, latches_of}
use Rattle.cells.proofs.Round.{cells_long_lem, cells_port, cells_holds, cells_table}
use Rattle.image.specs.Image.{word, port_bytes, head_bytes, byte_at, image_of, port_saves, imageable, saves, save, room_after, image_long, image_port}
use Rattle.image.specs.Load.{counts_in, port_in, port_reads, table_in, reads, restores, restore, cells_restored}
use Rattle.image.proofs.Load.{reads_long, reads_port}

-- what stands at a place of the image: a byte of the head, or of a port
pub head_byte : (t : Table) (k : ℕ) → k < 6 → byte_at t k ≡ get_or (head_bytes t) k 0
unfolding byte_at
head_byte t k h = simp (lt-ltb k 6 h)

pub port_byte : (t : Table) (p q : ℕ) → q < image_port → byte_at t (6 + image_port * p + q) ≡ get_or (port_bytes (port_at t p)) q 0
unfolding byte_at
port_byte t p q h =
    let d : (6 + image_port * p + q - 6) / image_port ≡ p = omega arith in
    let m : (6 + image_port * p + q - 6) % image_port ≡ q = omega arith in
    simp (le-ltb (6 + image_port * p + q) 6 (omega arith), d, m)

image_at : (t : Table) (p q i : ℕ) → p < most_ports → q < image_port → i ≡ 6 + image_port * p + q → get_or (image_of t) i 0 ≡ get_or (port_bytes (port_at t p)) q 0
unfolding image_of
image_at t p q i hp hq e = get_d_tabulate image_long (byte_at t) 0 i (omega arith) ∙ ap (byte_at t) e ∙ port_byte t p q hq

image_head : (t : Table) (i : ℕ) → i < 6 → get_or (image_of t) i 0 ≡ get_or (head_bytes t) i 0
unfolding image_of
image_head t i h = get_d_tabulate image_long (byte_at t) 0 i (omega arith) ∙ head_byte t i h

pub image_long_lem : (t : Table) → length (image_of t) ≡ image_long
unfolding image_of
image_long_lem t = length_tabulate image_long (byte_at t)

module _ (t : Table) (p : ℕ) (h : p < most_ports) where
  abbrev port : Port
  port = port_at t p

  -- a number of two bytes in a port's image
  word_back : (w q i : ℕ) → q < 20 → i ≡ 6 + image_port * p + q → get_or (port_bytes port) q 0 ≡ w / 256 → get_or (port_bytes port) (q + 1) 0 ≡ w % 256 → word_at (image_of t) i ≡ w
  unfolding word_at
  word_back w q i l e x y = omega (arith, image_at t p q i h (omega arith) e, image_at t p (q + 1) (i + 1) h (omega arith) (omega arith))

  counts_back : counts_in (image_of t) (6 + image_port * p + 7) ≡ port.counts
  unfolding counts_in port_bytes
  counts_back =
      λ k.
      record {
        detection = word_back port.counts.detection 7 (6 + image_port * p + 7) (omega arith) (omega arith) refl refl k;
        backoff = word_back port.counts.backoff 9 (6 + image_port * p + 7 + 2) (omega arith) (omega arith) refl refl k;
        error_delay = word_back port.counts.error_delay 11 (6 + image_port * p + 7 + 4) (omega arith) (omega arith) refl refl k;
        power_on = word_back port.counts.power_on 13 (6 + image_port * p + 7 + 6) (omega arith) (omega arith) refl refl k;
        limiting = word_back port.counts.limiting 15 (6 + image_port * p + 7 + 8) (omega arith) (omega arith) refl refl k;
        overload = word_back port.counts.overload 17 (6 + image_port * p + 7 + 10) (omega arith) (omega arith) refl refl k;
        no_load = word_back port.counts.no_load 19 (6 + image_port * p + 7 + 12) (omega arith) (omega arith) refl refl k;
      }

  port_back : port_in (image_of t) (6 + image_port * p) ≡ port
  unfolding port_in port_bytes
  port_back =
      let counts = counts_back in
      λ k.
      record {
        state = (ap state_of (image_at t p 0 (6 + image_port * p) h (omega arith) (omega arith)) ∙ state_back port.state) k;
        class = image_at t p 3 (6 + image_port * p + 3) h (omega arith) (omega arith) k;
        control = word_back port.control 1 (6 + image_port * p + 1) (omega arith) (omega arith) refl refl k;
        demand = ap tenths (word_back port.demand.0 4 (6 + image_port * p + 4) (omega arith) (omega arith) refl refl) k;
        latches = (ap latches_of (image_at t p 6 (6 + image_port * p + 6) h (omega arith) (omega arith)) ∙ latches_back port.latches) k;
        counts = counts k;
      }

  port_takes : port_reads (image_of t) (6 + image_port * p) ≡ true
  unfolding port_reads port_bytes
  port_takes =
      simp (image_at t p 0 (6 + image_port * p) h (omega arith) (omega arith), le-leb _ _ (code_small port.state))

  port_there : get_or t.ports p no_port ≡ port_in (image_of t) (6 + image_port * p)
  unfolding port_at
  port_there = sym port_back

-- a table reads back as it was written
pub table_back : (t : Table) → length t.ports ≡ most_ports → table_in (image_of t) ≡ t
unfolding table_in word_at head_bytes
table_back t l =
    let c0 = image_head t 0 (omega arith) in
    let c1 = image_head t 1 (omega arith) in
    let s4 = image_head t 4 (omega arith) in
    let s5 = image_head t 5 (omega arith) in
    let count : word_at (image_of t) 0 ≡ t.count = omega arith in
    let supply : word_at (image_of t) 4 ≡ t.supply.0 = omega arith in
    let ports = tabulated most_ports (λ p. port_in (image_of t) (6 + image_port * p)) no_port t.ports l (port_there t) in
    λ k. record { ports = sym ports k; count = count k; supply = ap tenths supply k }

pub image_reads : (t : Table) → reads (image_of t) ≡ true
unfolding reads word_at head_bytes
image_reads t =
    let a = image_head t 2 (omega arith) in
    let b = image_head t 3 (omega arith) in
    let supply : word_at (image_of t) 2 ≡ 0 = omega arith in
    simp (eq-eqb _ _ (image_long_lem t), eq-eqb _ _ supply, every_of most_ports (λ p. port_reads (image_of t) (6 + image_port * p)) (port_takes t))

-- ---- cells, saved and restored

-- the image of a table makes any cells of the right number that table's
pub restored_image : (t : Table) (m : List ℕ) → length t.ports ≡ most_ports → length m ≡ cells_long → cells_restored (image_of t) m ≡ cells_of t
unfolding cells_restored restores
restored_image t m long fits = simp (image_reads t, eq-eqb _ _ fits) (ap cells_of (table_back t long))

pub table_ports : (l : List ℕ) → length (table_of l).ports ≡ most_ports
unfolding table_of
table_ports l = length_tabulate most_ports (port_of l)

-- cells restored from the image of others are the table that those are
pub image_kept : (l m : List ℕ) → length m ≡ cells_long → table_of (cells_restored (image_of (table_of l)) m) ≡ table_of l
image_kept l m fits = ap table_of (restored_image (table_of l) m (table_ports l) fits) ∙ cells_table (table_of l) (table_ports l)

-- cells that are saved come back as the table that they were
pub saved_restored : (l room m : List ℕ) → saves l room ≡ true → length m ≡ cells_long → table_of (cells_restored (room_after l room) m) ≡ table_of l
unfolding room_after
saved_restored l room m e fits = simp e (image_kept l m fits)

-- bytes that are an image
module _ (bytes : List ℕ) (octets : (k : ℕ) → get_or bytes k 0 < 256) where
  high_again : (i j : ℕ) → i ≡ j → word_at bytes i / 256 ≡ get_or bytes j 0
  unfolding word_at
  high_again i j e = let h = octets (i + 1) in let b : word_at bytes i / 256 ≡ get_or bytes i 0 = omega arith in b ∙ ap (λ (n : ℕ). get_or bytes n 0) e

  low_again : (i j : ℕ) → i + 1 ≡ j → word_at bytes i % 256 ≡ get_or bytes j 0
  unfolding word_at
  low_again i j e = let h = octets (i + 1) in let b : word_at bytes i % 256 ≡ get_or bytes (i + 1) 0 = omega arith in b ∙ ap (λ (n : ℕ). get_or bytes n 0) e

  -- a number of two bytes, as it is written again
  word_again : (i j k : ℕ) (r s : List ℕ) → i ≡ j → i + 1 ≡ k → r ≡ s → word (word_at bytes i) ++ r ≡ get_or bytes j 0 ∷ get_or bytes k 0 ∷ s
  word_again i j k r s e f g = ap₂ ◌∷◌ (high_again i j e) (ap₂ ◌∷◌ (low_again i k f) g)

  port_again : (at : ℕ) → port_reads bytes at ≡ true → port_bytes (port_in bytes at) ≡ tabulate image_port (λ q. get_or bytes (at + q) 0)
  unfolding port_bytes port_in counts_in port_reads tabulate
  port_again at e =
      ap₂ ◌∷◌ (code_again (get_or bytes at 0) (leb-true _ _ e) ∙ ap (λ (n : ℕ). get_or bytes n 0) (omega arith))
      (word_again (at + 1) (at + 1) (at + 2) _ _ refl (omega arith)
      (ap₂ ◌∷◌ refl
      (word_again (at + 4) (at + 4) (at + 5) _ _ refl (omega arith)
      (ap₂ ◌∷◌ (latches_again (get_or bytes (at + 6) 0) (octets (at + 6)))
      (word_again (at + 7) (at + 7) (at + 8) _ _ refl (omega arith)
      (word_again (at + 7 + 2) (at + 9) (at + 10) _ _ (omega arith) (omega arith)
      (word_again (at + 7 + 4) (at + 11) (at + 12) _ _ (omega arith) (omega arith)
      (word_again (at + 7 + 6) (at + 13) (at + 14) _ _ (omega arith) (omega arith)
      (word_again (at + 7 + 8) (at + 15) (at + 16) _ _ (omega arith) (omega arith)
      (word_again (at + 7 + 10) (at + 17) (at + 18) _ _ (omega arith) (omega arith)
      (word_again (at + 7 + 12) (at + 19) (at + 20) [] [] (omega arith) (omega arith) refl)))))))))))

  module _ (read : reads bytes ≡ true) where
    supply_again : word_at bytes 2 ≡ 0
    unfolding reads
    supply_again = eqb-true _ _ (and_left (eqb (word_at bytes 2) 0) _ (and_right (eqb (length bytes) image_long) _ read))

    head_again : head_bytes (table_in bytes) ≡ tabulate 6 (λ q. get_or bytes q 0)
    unfolding head_bytes table_in tabulate word_at
    head_again =
        let e = supply_again in
        word_again 0 0 1 _ _ refl refl
        (ap₂ ◌∷◌ (omega arith)
        (ap₂ ◌∷◌ (omega arith)
        (word_again 4 4 5 [] [] refl refl refl)))

    port_at_lem : (p : ℕ) → p < most_ports → port_at (table_in bytes) p ≡ port_in bytes (6 + image_port * p)
    unfolding port_at table_in
    port_at_lem p h = get_d_tabulate most_ports (λ p. port_in bytes (6 + image_port * p)) no_port p h

    byte_again : (k : ℕ) → k < image_long → get_or bytes k 0 ≡ byte_at (table_in bytes) k
    unfolding byte_at
    byte_again k h =
        ⊎_elim
        (λ (l : k < 6). simp (lt-ltb k 6 l, head_again) (sym (get_d_tabulate 6 (λ q. get_or bytes q 0) 0 k l)))
        (λ (l : 6 ≤ k).
        let p = (k - 6) / image_port in
        let q = (k - 6) % image_port in
        let a : p < most_ports = omega arith in
        let b : q < image_port = omega arith in
        let e : 6 + image_port * p + q ≡ k = omega arith in
        simp (le-ltb k 6 l, port_at_lem p a, port_again (6 + image_port * p) (reads_port bytes read p a))
        (sym (get_d_tabulate image_port (λ q. get_or bytes (6 + image_port * p + q) 0) 0 q b ∙ ap (λ (n : ℕ). get_or bytes n 0) e)))
        (side k 6)

    -- an image that reads is rewritten the same
    pub rewritten : image_of (table_in bytes) ≡ bytes
    unfolding image_of
    rewritten = sym (tabulated image_long (byte_at (table_in bytes)) 0 bytes (reads_long bytes read) byte_again)

    byte_class : (p : ℕ) → p < most_ports → port_saves (cells_of (table_in bytes)) p ≡ true
    unfolding port_saves port_of port_in
    byte_class p h =
        let e : get_or (cells_of (table_in bytes)) (152 + p) 0 ≡ get_or bytes (6 + image_port * p + 3) 0 = ap (λ (x : Port). x.class) (cells_port (table_in bytes) p h ∙ port_at_lem p h) in
        simp (cells_holds (table_in bytes) p h, e, lt-ltb _ _ (octets (6 + image_port * p + 3)))

    same : (l : List ℕ) → length l ≡ cells_long → table_of (cells_restored bytes l) ≡ table_in bytes
    unfolding cells_restored restores table_in
    same l fits = simp (read, eq-eqb _ _ fits) (cells_table (table_in bytes) (length_tabulate most_ports (λ p. port_in bytes (6 + image_port * p))))

    -- what was restored can be saved, and then stands in the room as it was
    pub restored_saves : (l room : List ℕ) → length l ≡ cells_long → length room ≡ image_long → saves (cells_restored bytes l) room ≡ true
    unfolding cells_restored restores saves imageable
    restored_saves l room fits spare =
        let t = table_in bytes in
        simp (read, eq-eqb _ _ fits, eq-eqb _ _ spare, eq-eqb _ _ (cells_long_lem t), every_of most_ports (port_saves (cells_of t)) byte_class)

    pub restored_saved : (l room : List ℕ) → length l ≡ cells_long → length room ≡ image_long → room_after (cells_restored bytes l) room ≡ bytes
    unfolding room_after
    restored_saved l room fits spare =
        simp (restored_saves l room fits spare) (ap image_of (same l fits) ∙ rewritten)

-- ---- what is answered is Ok exactly where all is saved, or restored

pub save_ok : (l room : List ℕ) → is_ok (save l room) ≡ saves l room
unfolding save saves
save_ok l room = both (imageable l) (eqb (length room) image_long)
  where
    both : (a b : Bool) → is_ok {T = Unit {0}} {E = Refusal} (cond a (cond b (Ok tt) (refused 1)) (refused 13)) ≡ (a && b)
    both true true = refl
    both true false = refl
    both false b = refl

pub restore_ok : (bytes l : List ℕ) → is_ok (restore bytes l) ≡ restores bytes l
unfolding restore
restore_ok bytes l = one_of (restores bytes l)
  where
    one_of : (a : Bool) → is_ok {T = Unit {0}} {E = Refusal} (cond a (Ok tt) (refused 13)) ≡ a
    one_of true = refl
    one_of false = refl
