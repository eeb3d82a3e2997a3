-- What is proved of specs/Cold.
-- Assumes nothing.
use Prim.Native.Nat.{ℕ, zero, suc, ◌+◌, ◌-◌, ◌*◌, ◌%◌, ◌≤◌, ◌<◌}
use mathlib.Core.Path.{◌≡◌, refl, sym, ◌∙◌, ap}
use mathlib.Core.Bool.{Bool, true, false, ◌&&◌, false≢true, and-false}
use mathlib.Core.List.{List}
use mathlib.Core.Logic.{⊎_elim}
use native.Mathlib.Nat.{eq-or-lt_of_le}
use native.Mathlib.Omega.{arith}
use lib.Dec.{leb, ltb}
use lib.ListN.{length, get_or, set, replicate, length-set, length-replicate, get_or-replicate}
use lib.Seq.{get_or-set_same, get_or-set_other}
use borrow.Author.Tests.{le-leb, lt-leb, leb-true, lt-ltb, le-ltb, ltb-true, ne_eqb}
use Rattle.sizes.specs.Sizes.{most_ports}
use Rattle.lists.specs.Places.{tabulate}
use Rattle.lists.proofs.Places.{side, length_tabulate, get_d_tabulate}
use Rattle.lists.proofs.Tests.{and_left, and_right}
use Rattle.port.specs.declared.form.Port.{Port}
use Rattle.table.specs.Parts.{no_port, port_at}
use Rattle.cells.specs.Cells.{cells_long, fields_of, is_of_port, cells_of}
use Rattle.cells.specs.Codes.{latch_byte}
use Rattle.cells.proofs.Laws.{is_written}
use Rattle.replies.specs.Calls.{cold_port, cold_table}
use Rattle.replies.specs.Cold.{cold_cell}

cold_at : (n p : ℕ) → p < most_ports → port_at (cold_table n) p ≡ cold_port
unfolding port_at cold_table
cold_at n p h = get_or-replicate most_ports p cold_port no_port h

-- a cell that is neither the count nor a control word
none : (n k : ℕ) → 1 ≤ k → (leb 56 k && ltb k 104) ≡ false → cold_cell n k ≡ 0
unfolding cold_cell
none n k h e = simp (ne_eqb k 0 (λ z. omega arith), e)

-- a port's cells are those of a cold port
cold_field : (n p g : ℕ) → p < most_ports → g < 12 → cold_cell n (8 + most_ports * g + p) ≡ get_or (fields_of cold_port) g 0
unfolding cold_cell latch_byte
cold_field n p zero hp hg = none n (8 + most_ports * 0 + p) (omega arith) (simp (lt-leb 56 (8 + most_ports * 0 + p) (omega arith)))
cold_field n p (suc zero) hp hg =
    simp (ne_eqb (8 + most_ports * 1 + p) 0 (λ z. omega arith), le-leb 56 (8 + most_ports * 1 + p) (omega arith), lt-ltb (8 + most_ports * 1 + p) 104 (omega arith))
cold_field n p (suc (suc g)) hp hg =
    none n (8 + most_ports * suc (suc g) + p) (omega arith) (simp (le-ltb (8 + most_ports * suc (suc g) + p) 104 (omega arith), and-false))
    ∙ sym (get_or-replicate 10 g 0 0 (omega arith))

-- the head, and what is nobody's
abbrev base : ℕ → List ℕ
base n = set (set (replicate cells_long 0) 0 n) 1 0

base_long : (n : ℕ) → length (base n) ≡ cells_long
base_long n = length-set (set (replicate cells_long 0) 0 n) 1 0 ∙ length-set (replicate cells_long 0) 0 n ∙ length-replicate {A = ℕ} cells_long 0

base_rest : (n k : ℕ) → 1 ≤ k → k < cells_long → get_or (base n) k 0 ≡ 0
base_rest n k h b =
    ⊎_elim
    (λ (e : 1 ≡ k). rw (sym e) (get_or-set_same (set (replicate cells_long 0) 0 n) 1 0 0 (omega (arith, length-set (replicate cells_long 0) 0 n, length-replicate {A = ℕ} cells_long 0))))
    (λ (l : 1 < k).
    get_or-set_other (set (replicate cells_long 0) 0 n) 1 k 0 0 (λ e. omega arith)
    ∙ get_or-set_other (replicate cells_long 0) 0 k n 0 (λ e. omega arith)
    ∙ get_or-replicate cells_long k 0 0 b)
    (eq-or-lt_of_le {n = 1} {m = k} h)

cold_else : (n k : ℕ) → k < cells_long → is_of_port most_ports k ≡ false → cold_cell n k ≡ get_or (base n) k 0
unfolding cold_cell is_of_port
cold_else n k b e =
    ⊎_elim
    (λ (h : k < 1).
    let z : 0 ≡ k = omega arith in
    rw (sym z) (sym (get_or-set_other (set (replicate cells_long 0) 0 n) 1 0 0 0 (λ q. omega arith) ∙ get_or-set_same (replicate cells_long 0) 0 n 0 (omega (arith, length-replicate {A = ℕ} cells_long 0)))))
    (λ (h : 1 ≤ k). none n k h (apart (leb 56 k && ltb k 104) refl) ∙ sym (base_rest n k h b))
    (side k 1)
  where
    apart : (t : Bool) → (leb 56 k && ltb k 104) ≡ t → t ≡ false
    apart true q =
        let a = leb-true 56 k (and_left (leb 56 k) (ltb k 104) q) in
        let c = ltb-true k 104 (and_right (leb 56 k) (ltb k 104) q) in
        absurd (false≢true (sym e ∙ simp (le-leb 8 k (omega arith), lt-ltb k 584 (omega arith), lt-ltb ((k - 8) % most_ports) most_ports (omega arith))))
    apart false q = refl

pub cold_cells : (n : ℕ) → tabulate cells_long (cold_cell n) ≡ cells_of (cold_table n)
unfolding cells_of cold_table
cold_cells n =
    is_written most_ports (port_at (cold_table n)) (base n) (tabulate cells_long (cold_cell n)) (omega arith) (omega (arith, base_long n))
    (length_tabulate cells_long (cold_cell n) ∙ sym (base_long n))
    (λ p g hp hg.
    get_d_tabulate cells_long (cold_cell n) 0 (8 + most_ports * g + p) (omega arith) ∙ cold_field n p g hp hg
    ∙ ap (λ (x : Port). get_or (fields_of x) g 0) (sym (cold_at n p hp)))
    (λ k h e.
    let b : k < cells_long = omega (arith, base_long n) in
    get_d_tabulate cells_long (cold_cell n) 0 k b ∙ cold_else n k b e)
