-- What is proved of specs/Laws.
-- Assumes nothing.
use mathlib.Core.Path.{◌≡◌, refl, sym, ◌∙◌, ap, subst}
use mathlib.Core.Bool.{true, false, cond, and-false, false≢true}
use mathlib.Core.List.{List}
use mathlib.Core.Logic.{◌⊎◌, inl, inr, ⊎_elim}
use Prim.Native.Nat.{ℕ, zero, suc, ◌+◌, ◌-◌, ◌*◌, ◌/◌, ◌%◌, ◌≤◌, ◌<◌}
use native.Mathlib.Nat.{eq-or-lt_of_le}
use native.Mathlib.Omega.{arith}
use lib.Dec.{leb, ltb}
use lib.ListN.{length, get_or, set, length-set}
use lib.Seq.{ext_get_or, get_or-set_same, get_or-set_other}
use borrow.Author.Tests.{lt-ltb, le-ltb, le-leb, lt-leb, leb-true, ltb-true}
use Rattle.sizes.specs.Sizes.{most_ports}
use Rattle.lists.proofs.Places.{side, length_tabulate, get_d_tabulate}
use Rattle.lists.proofs.Tests.{and_left, and_right}
use Rattle.power.specs.Power.{tenths}
use Rattle.port.specs.declared.form.Port.{Port}
use Rattle.table.specs.Parts.{no_port, port_at}
use Rattle.cells.specs.Cells.{counts_of, port_of, table_of, port_holds, fields_of, is_of_port, written}
use Rattle.cells.proofs.CodeLaws.{state_back, code_again, latches_back, latches_again}
use Rattle.cells.specs.Codes.{state_of, latches_of}
use Rattle.cells.specs.Writes.{writes}
use Rattle.cells.proofs.Writes.{length_writes, writes_other, writes_at}
use Rattle.cells.specs.Holds.{Holds}

-- ---- which cells are a port's

-- cell k is field g of the port at place p
record OfPort (n k : ℕ) : Type 0 where
  field : ℕ
  place : ℕ
  at : k ≡ 8 + most_ports * field + place
  one_of : field < 12
  below : place < n

kind : (n k : ℕ) → n ≤ most_ports → OfPort n k ⊎ (is_of_port n k ≡ false)
unfolding is_of_port
kind n k few =
    ⊎_elim
    (λ (a : 8 ≤ k).
    ⊎_elim
    (λ (b : k < 584).
    ⊎_elim
    (λ (c : (k - 8) % most_ports < n). inl (record { field = (k - 8) / most_ports; place = (k - 8) % most_ports; at = omega arith; one_of = omega arith; below = c }))
    (λ (c : n ≤ (k - 8) % most_ports). inr (simp (le-ltb ((k - 8) % most_ports) n c, and-false)))
    (side ((k - 8) % most_ports) n))
    (λ (b : 584 ≤ k). inr (simp (le-ltb k 584 b, and-false)))
    (side k 584))
    (λ (a : k < 8). inr (simp (lt-leb 8 k a)))
    (⊎_elim (λ (x : k < 8). inr x) (λ (x : 8 ≤ k). inl x) (side k 8))

module _ (n : ℕ) (f : ℕ → Port) (l : List ℕ) where
  abbrev cell : ℕ → ℕ
  cell k = cond (is_of_port n k) (get_or (fields_of (f ((k - 8) % most_ports))) ((k - 8) / most_ports) 0) (get_or l k 0)

  pub written_long : length (written n f l) ≡ length l
  unfolding written
  written_long = length_tabulate (length l) cell

  written_cell : (k : ℕ) → k < length l → get_or (written n f l) k 0 ≡ cell k
  unfolding written
  written_cell k h = get_d_tabulate (length l) cell 0 k h

  -- a cell that is no port's is as it was
  written_else : (k : ℕ) → k < length l → is_of_port n k ≡ false → get_or (written n f l) k 0 ≡ get_or l k 0
  written_else k h e = written_cell k h ∙ simp e

  -- the head is no port's
  pub written_head : (k : ℕ) → k < 8 → k < length l → get_or (written n f l) k 0 ≡ get_or l k 0
  unfolding is_of_port
  written_head k h b = written_else k b (simp (lt-leb 8 k h))

  module _ (few : n ≤ most_ports) (long : 584 ≤ length l) where
    pub written_field : (p g : ℕ) → p < n → g < 12 → get_or (written n f l) (8 + most_ports * g + p) 0 ≡ get_or (fields_of (f p)) g 0
    unfolding is_of_port
    written_field p g hp hg =
        let m : (8 + most_ports * g + p - 8) % most_ports ≡ p = omega arith in
        let d : (8 + most_ports * g + p - 8) / most_ports ≡ g = omega arith in
        written_cell (8 + most_ports * g + p) (omega arith)
        ∙ simp (le-leb 8 (8 + most_ports * g + p) (omega arith), lt-ltb (8 + most_ports * g + p) 584 (omega arith), m, d, lt-ltb p n hp)

    -- a place past them is as it was
    pub written_past : (p g : ℕ) → n ≤ p → p < most_ports → g < 12 → get_or (written n f l) (8 + most_ports * g + p) 0 ≡ get_or l (8 + most_ports * g + p) 0
    unfolding is_of_port
    written_past p g hp h hg =
        let m : (8 + most_ports * g + p - 8) % most_ports ≡ p = omega arith in
        written_else (8 + most_ports * g + p) (omega arith) (simp (m, le-ltb p n hp, and-false))

    -- the cells decode to the ports that were written
    pub port_written : (p : ℕ) → p < n → port_of (written n f l) p ≡ f p
    unfolding port_of counts_of
    port_written p hp =
        let at : (g : ℕ) → g < 12 → get_or (written n f l) (8 + most_ports * g + p) 0 ≡ get_or (fields_of (f p)) g 0 = λ g hg. written_field p g hp hg in
        λ k.
        record {
          state = (ap state_of (at 0 (omega arith)) ∙ state_back (f p).state) k;
          class = at 3 (omega arith) k;
          control = at 1 (omega arith) k;
          demand = ap tenths (at 2 (omega arith)) k;
          latches = (ap latches_of (at 4 (omega arith)) ∙ latches_back (f p).latches) k;
          counts =
              record {
                detection = at 5 (omega arith) k;
                backoff = at 6 (omega arith) k;
                error_delay = at 7 (omega arith) k;
                power_on = at 8 (omega arith) k;
                limiting = at 9 (omega arith) k;
                overload = at 10 (omega arith) k;
                no_load = at 11 (omega arith) k;
              };
        }

    pub port_past : (p : ℕ) → n ≤ p → p < most_ports → port_of (written n f l) p ≡ port_of l p
    unfolding port_of counts_of
    port_past p hp h =
        let at : (g : ℕ) → g < 12 → get_or (written n f l) (8 + most_ports * g + p) 0 ≡ get_or l (8 + most_ports * g + p) 0 = λ g hg. written_past p g hp h hg in
        λ k.
        record {
          state = ap state_of (at 0 (omega arith)) k;
          class = at 3 (omega arith) k;
          control = at 1 (omega arith) k;
          demand = ap tenths (at 2 (omega arith)) k;
          latches = ap latches_of (at 4 (omega arith)) k;
          counts =
              record {
                detection = at 5 (omega arith) k;
                backoff = at 6 (omega arith) k;
                error_delay = at 7 (omega arith) k;
                power_on = at 8 (omega arith) k;
                limiting = at 9 (omega arith) k;
                overload = at 10 (omega arith) k;
                no_load = at 11 (omega arith) k;
              };
        }

-- a list of cells is the written one if each of its cells is
pub is_written : (n : ℕ) (f : ℕ → Port) (l m : List ℕ) → n ≤ most_ports → 584 ≤ length l → length m ≡ length l
    → ((p g : ℕ) → p < n → g < 12 → get_or m (8 + most_ports * g + p) 0 ≡ get_or (fields_of (f p)) g 0)
    → ((k : ℕ) → k < length l → is_of_port n k ≡ false → get_or m k 0 ≡ get_or l k 0)
    → m ≡ written n f l
is_written n f l m few long same ours others =
    ext_get_or 0 m (written n f l) (same ∙ sym (written_long n f l))
    (λ k h0.
    let h : k < length l = omega (arith, same) in
    ⊎_elim
    (λ (o : OfPort n k).
    ap (λ (j : ℕ). get_or m j 0) o.at ∙ ours o.place o.field o.below o.one_of
    ∙ sym (ap (λ (j : ℕ). get_or (written n f l) j 0) o.at ∙ written_field n f l few long o.place o.field o.below o.one_of))
    (λ (e : is_of_port n k ≡ false). others k h e ∙ sym (written_else n f l k h e))
    (kind n k few))

pub holds_state : (l : List ℕ) (p : ℕ) → port_holds l p ≡ true → get_or l (8 + p) 0 ≤ 9
unfolding port_holds
holds_state l p e = leb-true (get_or l (8 + p) 0) 9 (and_left (leb (get_or l (8 + p) 0) 9) (ltb (get_or l (200 + p) 0) 256) e)

pub holds_latches : (l : List ℕ) (p : ℕ) → port_holds l p ≡ true → get_or l (200 + p) 0 < 256
unfolding port_holds
holds_latches l p e = ltb-true (get_or l (200 + p) 0) 256 (and_right (leb (get_or l (8 + p) 0) 9) (ltb (get_or l (200 + p) 0) 256) e)

-- a field of the port that the cells are is its cell
pub field_of : (l : List ℕ) (p : ℕ) → port_holds l p ≡ true → (g : ℕ) → g < 12 → get_or (fields_of (port_of l p)) g 0 ≡ get_or l (8 + most_ports * g + p) 0
unfolding port_of counts_of
field_of l p e zero h = code_again (get_or l (8 + p) 0) (holds_state l p e)
field_of l p e (suc zero) h = refl
field_of l p e (suc (suc zero)) h = refl
field_of l p e (suc (suc (suc zero))) h = refl
field_of l p e (suc (suc (suc (suc zero)))) h = latches_again (get_or l (200 + p) 0) (holds_latches l p e)
field_of l p e (suc (suc (suc (suc (suc zero))))) h = refl
field_of l p e (suc (suc (suc (suc (suc (suc zero)))))) h = refl
field_of l p e (suc (suc (suc (suc (suc (suc (suc zero))))))) h = refl
field_of l p e (suc (suc (suc (suc (suc (suc (suc (suc zero)))))))) h = refl
field_of l p e (suc (suc (suc (suc (suc (suc (suc (suc (suc zero))))))))) h = refl
field_of l p e (suc (suc (suc (suc (suc (suc (suc (suc (suc (suc zero)))))))))) h = refl
field_of l p e (suc (suc (suc (suc (suc (suc (suc (suc (suc (suc (suc zero))))))))))) h = refl
field_of l p e (suc (suc (suc (suc (suc (suc (suc (suc (suc (suc (suc (suc g)))))))))))) h = absurd (omega arith)

pub written_self : (n : ℕ) (l : List ℕ) → n ≤ most_ports → 584 ≤ length l → Holds n l → l ≡ written n (port_of l) l
written_self n l few long holds = is_written n (port_of l) l l few long refl (λ p g hp hg. sym (field_of l p (holds p hp) g hg)) (λ k h e. refl)

module _ (n : ℕ) (f g : ℕ → Port) (l : List ℕ) (few : n ≤ most_ports) (long : 584 ≤ length l) where
  -- ---- written again

  pub written_cong : ((p : ℕ) → p < n → f p ≡ g p) → written n f l ≡ written n g l
  written_cong same =
      is_written n g l (written n f l) few long (written_long n f l)
      (λ p j hp hj. written_field n f l few long p j hp hj ∙ ap (λ (x : Port). get_or (fields_of x) j 0) (same p hp))
      (λ k h e. written_else n f l k h e)

  pub written_again : written n g (written n f l) ≡ written n g l
  written_again =
      let long' : 584 ≤ length (written n f l) = omega (arith, written_long n f l) in
      is_written n g l (written n g (written n f l)) few long (written_long n g (written n f l) ∙ written_long n f l)
      (λ p j hp hj. written_field n g (written n f l) few long' p j hp hj)
      (λ k h e. written_else n g (written n f l) k (omega (arith, written_long n f l)) e ∙ written_else n f l k h e)

-- a cell of a port is not none of a port
not_a_port : (n k p j : ℕ) → n ≤ most_ports → p < n → k ≡ 8 + most_ports * j + p → j < 12 → is_of_port n k ≡ false → ⊥
unfolding is_of_port
not_a_port n k p j few hp a hj z =
    let m : (k - 8) % most_ports < n = omega arith in
    false≢true (sym z ∙ simp (le-leb 8 k (omega arith), lt-ltb k 584 (omega arith), lt-ltb ((k - 8) % most_ports) n m))

-- some fields of one port, written one after the other
pub writes_written : (n : ℕ) (f f' : ℕ → Port) (l : List ℕ) (vs : List ℕ) (b p : ℕ) → n ≤ most_ports → 584 ≤ length l → p < n → b + length vs ≤ 12
    → ((g : ℕ) → g < 12 → (g < b) ⊎ (b + length vs ≤ g) → get_or (fields_of (f' p)) g 0 ≡ get_or (fields_of (f p)) g 0)
    → ((j : ℕ) → j < length vs → get_or (fields_of (f' p)) (b + j) 0 ≡ get_or vs j 0)
    → ((q : ℕ) → q < n → (q ≡ p → ⊥) → f' q ≡ f q)
    → writes vs b p (written n f l) ≡ written n f' l
writes_written n f f' l vs b p few long hp fits out in' rest =
    is_written n f' l (writes vs b p (written n f l)) few long (length_writes vs b p (written n f l) ∙ written_long n f l) ours others
  where
    then : List ℕ
    then = writes vs b p (written n f l)

    -- a field of p that is not written
    left : (g : ℕ) → g < 12 → (g < b) ⊎ (b + length vs ≤ g) → get_or then (8 + most_ports * g + p) 0 ≡ get_or (fields_of (f' p)) g 0
    left g hg s =
        writes_other vs b p (written n f l) (8 + most_ports * g + p) (λ j e m o. ⊎_elim (λ (x : g < b). omega arith) (λ (x : b + length vs ≤ g). omega arith) s)
        ∙ written_field n f l few long p g hp hg
        ∙ sym (out g hg s)

    mine : (g : ℕ) → g < 12 → get_or then (8 + most_ports * g + p) 0 ≡ get_or (fields_of (f' p)) g 0
    mine g hg =
        ⊎_elim
        (λ (x : g < b). left g hg (inl x))
        (λ (x : b ≤ g).
        ⊎_elim
        (λ (y : g < b + length vs).
        let e : b + (g - b) ≡ g = omega arith in
        ap (λ (j : ℕ). get_or then (8 + most_ports * j + p) 0) (sym e)
        ∙ writes_at vs b p (written n f l) (g - b) (omega arith) (omega (arith, written_long n f l))
        ∙ sym (in' (g - b) (omega arith))
        ∙ ap (λ (j : ℕ). get_or (fields_of (f' p)) j 0) e)
        (λ (y : b + length vs ≤ g). left g hg (inr y))
        (side g (b + length vs)))
        (side g b)

    ours : (q g : ℕ) → q < n → g < 12 → get_or then (8 + most_ports * g + q) 0 ≡ get_or (fields_of (f' q)) g 0
    ours q g hq hg =
        ⊎_elim
        (λ (x : q < p). theirs (λ e. omega arith))
        (λ (x : p ≤ q).
        ⊎_elim
        (λ (e : p ≡ q). subst (λ (x : ℕ). get_or then (8 + most_ports * g + x) 0 ≡ get_or (fields_of (f' x)) g 0) e (mine g hg))
        (λ (y : p < q). theirs (λ e. omega arith))
        (eq-or-lt_of_le {n = p} {m = q} x))
        (side q p)
      where
        theirs : (q ≡ p → ⊥) → get_or then (8 + most_ports * g + q) 0 ≡ get_or (fields_of (f' q)) g 0
        theirs apart =
            writes_other vs b p (written n f l) (8 + most_ports * g + q) (λ j e m o. apart (omega arith))
            ∙ written_field n f l few long q g hq hg
            ∙ ap (λ (x : Port). get_or (fields_of x) g 0) (sym (rest q hq apart))

    others : (k : ℕ) → k < length l → is_of_port n k ≡ false → get_or then k 0 ≡ get_or l k 0
    others k h e =
        writes_other vs b p (written n f l) k (λ j a m o. not_a_port n k p j few hp a (omega arith) e)
        ∙ written_else n f l k h e

-- a cell of the head, set before or after
pub written_set : (n : ℕ) (f : ℕ → Port) (l : List ℕ) (k v : ℕ) → n ≤ most_ports → 584 ≤ length l → k < 8 → set (written n f l) k v ≡ written n f (set l k v)
written_set n f l k v few long hk =
    let same = length-set l k v in
    is_written n f (set l k v) (set (written n f l) k v) few (omega (arith, same))
    (length-set (written n f l) k v ∙ written_long n f l ∙ sym same)
    (λ p g hp hg. get_or-set_other (written n f l) k (8 + most_ports * g + p) v 0 (λ e. omega arith) ∙ written_field n f l few long p g hp hg)
    (λ j h e.
    ⊎_elim
    (λ (x : j < k). get_or-set_other (written n f l) k j v 0 (λ q. omega arith) ∙ written_else n f l j (omega (arith, same)) e ∙ sym (get_or-set_other l k j v 0 (λ q. omega arith)))
    (λ (x : k ≤ j).
    ⊎_elim
    (λ (q : k ≡ j). rw (sym q) (get_or-set_same (written n f l) k v 0 (omega (arith, written_long n f l)) ∙ sym (get_or-set_same l k v 0 (omega arith))))
    (λ (y : k < j). get_or-set_other (written n f l) k j v 0 (λ q. omega arith) ∙ written_else n f l j (omega (arith, same)) e ∙ sym (get_or-set_other l k j v 0 (λ q. omega arith)))
    (eq-or-lt_of_le {n = k} {m = j} x))
    (side j k))

-- the ports of the table that cells are
pub table_at : (l : List ℕ) (q : ℕ) → q < most_ports → port_at (table_of l) q ≡ port_of l q
unfolding port_at table_of
table_at l q h = get_d_tabulate most_ports (port_of l) no_port q h
