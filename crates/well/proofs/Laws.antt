-- What well-made cells are, for whoever stands above them; and the test of them, port by port.
-- Assumes nothing.
use Prim.Native.Nat.{ℕ, zero, suc, ◌+◌, ◌≤◌, ◌<◌, max}
use mathlib.Core.Path.{◌≡◌, refl, sym, ◌∙◌, ap}
use mathlib.Core.Bool.{Bool, true, false, cond, ◌&&◌, and-true, and-false}
use mathlib.Core.List.{List, ◌∷◌}
use mathlib.Core.Logic.{⊎_elim}
use native.Mathlib.Omega.{arith}
use lib.Dec.{eqb, leb}
use lib.ListN.{length, get_or}
use borrow.Author.Tests.{le-leb, lt-leb, leb-true, eqb-true, eqb-false, eq-eqb, ne_eqb}
use Rattle.sizes.specs.Sizes.{most_ports}
use Rattle.lists.specs.Bits.{one}
use Rattle.lists.specs.Every.{every}
use Rattle.lists.proofs.Every.{every_at, every_cong}
use Rattle.lists.specs.Ladder.{ladder}
use Rattle.lists.proofs.Places.{side}
use Rattle.lists.proofs.Tests.{and_left, and_right}
use Rattle.power.specs.Power.{tenths, at_most, highest_supply}
use Rattle.power.specs.declared.Power.{Power}
use Rattle.table.specs.Parts.{port_at}
use Rattle.table.specs.Head.{well_head}
use Rattle.table.proofs.Head.{well_parts}
use Rattle.table.proofs.Laws.{ill_made_lem, none_ill}
use Rattle.table.proofs.WellMadePorts.{Well, well_of}
use Rattle.table.specs.WellMade.{ill_made, well_port, well_made}
use Rattle.cells.specs.Cells.{cells_long, count_cell, supply_cell, port_of, table_of, port_holds, is_table}
use Rattle.cells.specs.Holds.{Holds}
use Rattle.cells.proofs.Laws.{table_at}
use Rattle.well.specs.Judged.{head_cells, well_cells, port_fine}

-- ---- the tests that the code makes

-- the greater of two is small enough if both are
pub max_small : (a b k : ℕ) → leb (max a b) k ≡ (leb a k && leb b k)
max_small a b k =
    ⊎_elim
    (λ (x : k < a). lt-leb (max a b) k (omega arith) ∙ simp (lt-leb a k x))
    (λ (x : a ≤ k).
    ⊎_elim
    (λ (y : k < b). lt-leb (max a b) k (omega arith) ∙ simp (lt-leb b k y, and-false))
    (λ (y : b ≤ k). le-leb (max a b) k (omega arith) ∙ simp (le-leb a k x, le-leb b k y))
    (side k b))
    (side k a)

-- all are fine so long as all were and one more is
pub all_fine : (k n : ℕ) (b : Bool) → k ≤ n → eqb (k + one b) (n + 1) ≡ (eqb k n && b)
all_fine k n true h = same (eqb k n) refl ∙ sym (and-true (eqb k n))
  where
    same : (t : Bool) → eqb k n ≡ t → eqb (k + 1) (n + 1) ≡ t
    same true e = eq-eqb (k + 1) (n + 1) (ap (λ (m : ℕ). m + 1) (eqb-true k n e))
    same false e = ne_eqb (k + 1) (n + 1) (λ f. eqb-false k n e (omega arith))
all_fine k n false h = ne_eqb (k + 0) (n + 1) (λ e. omega arith) ∙ sym (and-false (eqb k n))

four : (a b c d : Bool) → ((a && b) && (c && d)) ≡ ((a && c) && (b && d))
four true true c d = refl
four true false c d = sym (and-false c)
four false b c d = refl

-- two tests of every place are one
every_and : (n : ℕ) (f g : ℕ → Bool) → (every n f && every n g) ≡ every n (λ p. f p && g p)
unfolding every
every_and zero f g = refl
every_and (suc n) f g = four (every n f) (f n) (every n g) (g n) ∙ ap (λ (b : Bool). b && (f n && g n)) (every_and n f g)

pub head_few : (n : ℕ) (s : Power) → well_head n s ≡ true → n ≤ most_ports
unfolding well_head
head_few n s e = leb-true n most_ports (and_right (leb 1 n) (leb n most_ports) (and_left (leb 1 n && leb n most_ports) (at_most s highest_supply) e))

pub head_some : (n : ℕ) (s : Power) → well_head n s ≡ true → 1 ≤ n
unfolding well_head
head_some n s e = leb-true 1 n (and_left (leb 1 n) (leb n most_ports) (and_left (leb 1 n && leb n most_ports) (at_most s highest_supply) e))

-- the test of a table, cell by cell
well_table : (l : List ℕ) → well_made (table_of l) ≡ (well_head (count_cell l) (tenths (supply_cell l)) && every (count_cell l) (λ q. well_port (port_of l q)))
unfolding table_of
well_table l = well_parts (table_of l) ∙ go (well_head (count_cell l) (tenths (supply_cell l))) refl
  where
    go : (b : Bool) → well_head (count_cell l) (tenths (supply_cell l)) ≡ b → (b && every (count_cell l) (λ q. well_port (port_at (table_of l) q))) ≡ (b && every (count_cell l) (λ q. well_port (port_of l q)))
    go true e = every_cong (count_cell l) (λ q. well_port (port_at (table_of l) q)) (λ q. well_port (port_of l q)) (λ q h. ap well_port (table_at l q (omega (arith, head_few (count_cell l) (tenths (supply_cell l)) e))))
    go false e = refl

-- the head, and then every port
pub well_cells_lem : (l : List ℕ) → well_cells l ≡ (head_cells l && every (count_cell l) (port_fine l))
unfolding well_cells is_table head_cells port_fine
well_cells_lem l =
    ap (λ (b : Bool). is_table l && b) (well_table l)
    ∙ four (eqb (length l) cells_long) (every (count_cell l) (port_holds l)) (well_head (count_cell l) (tenths (supply_cell l))) (every (count_cell l) (λ q. well_port (port_of l q)))
    ∙ ap (λ (b : Bool). (eqb (length l) cells_long && well_head (count_cell l) (tenths (supply_cell l))) && b) (every_and (count_cell l) (port_holds l) (λ q. well_port (port_of l q)))

-- ---- what well-made cells are

module _ (l : List ℕ) (e : head_cells l ≡ true) where
  pub head_long : length l ≡ cells_long
  unfolding head_cells
  head_long = eqb-true (length l) cells_long (and_left (eqb (length l) cells_long) (well_head (count_cell l) (tenths (supply_cell l))) e)

  pub head_well : well_head (count_cell l) (tenths (supply_cell l)) ≡ true
  unfolding head_cells
  head_well = and_right (eqb (length l) cells_long) (well_head (count_cell l) (tenths (supply_cell l))) e

  pub head_count : count_cell l ≤ most_ports
  head_count = head_few (count_cell l) (tenths (supply_cell l)) head_well

pub record WellCells (l : List ℕ) : Type 0 where
  pub long : length l ≡ cells_long
  pub some_ports : 1 ≤ count_cell l
  pub few_ports : count_cell l ≤ most_ports
  pub is_table_lem : is_table l ≡ true
  pub well_made_lem : well_made (table_of l) ≡ true
  pub holds : Holds (count_cell l) l
  pub ports : (p : ℕ) → p < count_cell l → Well (port_of l p)
  pub class : (p : ℕ) → p < count_cell l → get_or l (152 + p) 0 ≤ 4

pub cells_of : (l : List ℕ) → well_cells l ≡ true → WellCells l
unfolding well_cells port_fine port_of
cells_of l e =
    let parts = rw (well_cells_lem l) at e in
    let head = and_left (head_cells l) (every (count_cell l) (port_fine l)) parts in
    let fine = every_at (count_cell l) (port_fine l) (and_right (head_cells l) (every (count_cell l) (port_fine l)) parts) in
    let ports : (p : ℕ) → p < count_cell l → Well (port_of l p) = λ p h. well_of (port_of l p) (and_right (port_holds l p) (well_port (port_of l p)) (fine p h)) in
    record {
      long = head_long l head;
      some_ports = head_some (count_cell l) (tenths (supply_cell l)) (head_well l head);
      few_ports = head_count l head;
      is_table_lem = and_left (is_table l) (well_made (table_of l)) e;
      well_made_lem = and_right (is_table l) (well_made (table_of l)) e;
      holds = λ p h. and_left (port_holds l p) (well_port (port_of l p)) (fine p h);
      ports = ports;
      class = λ p h. (ports p h).class;
    }

-- ---- what a call comes to on cells that are not well-made, and on those that are

module _ {X : Type 0} (l : List ℕ) (rs : List (ℕ × Bool)) (refuse : ℕ → X) (value : X) where
  pub ill_cells_lem : well_cells l ≡ false → cond (is_table l) (ladder ((13, ill_made (table_of l)) ∷ rs) refuse value) (refuse 13) ≡ refuse 13
  unfolding well_cells
  ill_cells_lem e = go (is_table l) refl
    where
      go : (b : Bool) → is_table l ≡ b → cond b (ladder ((13, ill_made (table_of l)) ∷ rs) refuse value) (refuse 13) ≡ refuse 13
      go true q = simp (ill_made_lem (table_of l) (sym (ap (λ (b : Bool). b && well_made (table_of l)) q) ∙ e))
      go false q = refl

  pub well_goes : well_cells l ≡ true → cond (is_table l) (ladder ((13, ill_made (table_of l)) ∷ rs) refuse value) (refuse 13) ≡ ladder rs refuse value
  well_goes e = let w = cells_of l e in simp (w.is_table_lem, none_ill (table_of l) w.well_made_lem)
