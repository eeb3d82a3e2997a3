-- A pass over the places that writes a port at each: how far it has come.
-- Assumes nothing.
use mathlib.Core.Path.{◌≡◌, refl, sym, ◌∙◌, ap}
use mathlib.Core.Bool.{cond}
use mathlib.Core.List.{List}
use mathlib.Core.Logic.{⊎_elim}
use Prim.Native.Nat.{ℕ, zero, suc, ◌+◌, ◌*◌, ◌≤◌, ◌<◌}
use native.Mathlib.Nat.{le_refl, not-suc-le-zero, zero-add, add_comm}
use native.Mathlib.Numerals.{unary_clauses}
use native.Mathlib.Omega.{arith}
use lib.Dec.{ltb}
use lib.ListN.{length, get_or}
use borrow.Author.Tests.{lt-ltb, le-ltb}
use Rattle.sizes.specs.Sizes.{most_ports}
use Rattle.lists.proofs.Places.{side}
use Rattle.port.specs.Changes.{with_counts}
use Rattle.port.specs.declared.form.Counts.{Counts}
use Rattle.port.specs.declared.form.Port.{Port}
use Rattle.cells.specs.Cells.{port_of, fields_of, written}
use Rattle.cells.proofs.Laws.{written_cong, written_field, port_written, writes_written}
use Rattle.cells.specs.Writes.{with_port_cells, with_count_cells, count_fields}

-- the ports below i are those of g, the others those of h
unfoldable pub stage : ℕ → (ℕ → Port) → (ℕ → Port) → ℕ → Port
stage i g h p = cond (ltb p i) (g p) (h p)

pub stage_done : (i : ℕ) (g h : ℕ → Port) (p : ℕ) → p < i → stage i g h p ≡ g p
unfolding stage
stage_done i g h p l = simp (lt-ltb p i l)

pub stage_left : (i : ℕ) (g h : ℕ → Port) (p : ℕ) → i ≤ p → stage i g h p ≡ h p
unfolding stage
stage_left i g h p l = simp (le-ltb p i l)

-- one place more changes no other
pub stage_other : (i : ℕ) (g h : ℕ → Port) (p : ℕ) → (p ≡ i → ⊥) → stage (i + 1) g h p ≡ stage i g h p
stage_other i g h p apart =
    ⊎_elim
    (λ (x : p < i). stage_done (i + 1) g h p (omega arith) ∙ sym (stage_done i g h p x))
    (λ (x : i ≤ p). stage_left (i + 1) g h p (omega (arith, apart)) ∙ sym (stage_left i g h p x))
    (side p i)

-- other counters change no field before them
before_counts : (c : Counts) (x : Port) (j : ℕ) → j < 5 → get_or (fields_of (with_counts c x)) j 0 ≡ get_or (fields_of x) j 0
before_counts c x zero h = refl
before_counts c x (suc zero) h = refl
before_counts c x (suc (suc zero)) h = refl
before_counts c x (suc (suc (suc zero))) h = refl
before_counts c x (suc (suc (suc (suc zero)))) h = refl
before_counts c x (suc (suc (suc (suc (suc j))))) h = absurd (omega arith)

count_fields_lem : (c : Counts) (x : Port) (j : ℕ) → get_or (fields_of (with_counts c x)) (5 + j) 0 ≡ get_or (count_fields c) j 0
count_fields_lem c x j = rw (add_comm 5 j) (simp unary_clauses)

module _ (n : ℕ) (g h : ℕ → Port) (l : List ℕ) (few : n ≤ most_ports) (long : 584 ≤ length l) where
  pub pass_none : l ≡ written n h l → l ≡ written n (stage 0 g h) l
  pass_none e = e ∙ written_cong n h (stage 0 g h) l few long (λ p hp. sym (stage_left 0 g h p (omega arith)))

  pub pass_all : (m : List ℕ) → m ≡ written n (stage n g h) l → m ≡ written n g l
  pass_all m e = e ∙ written_cong n (stage n g h) g l few long (λ p hp. stage_done n g h p hp)

  module _ (i : ℕ) (m : List ℕ) (e : m ≡ written n (stage i g h) l) (hi : i < n) where
    -- the port at the place that is next
    pub pass_port : port_of m i ≡ h i
    pass_port = ap (λ (x : List ℕ). port_of x i) e ∙ port_written n (stage i g h) l few long i hi ∙ stage_left i g h i (le_refl i)

    pub pass_field : (j : ℕ) → j < 12 → get_or m (8 + most_ports * j + i) 0 ≡ get_or (fields_of (h i)) j 0
    pass_field j hj =
        ap (λ (x : List ℕ). get_or x (8 + most_ports * j + i) 0) e
        ∙ written_field n (stage i g h) l few long i j hi hj
        ∙ ap (λ (x : Port). get_or (fields_of x) j 0) (stage_left i g h i (le_refl i))

    -- it is written
    pub pass_more : (x : Port) → x ≡ g i → with_port_cells i x m ≡ written n (stage (i + 1) g h) l
    unfolding with_port_cells
    pass_more x q =
        ap (with_port_cells i x) e
        ∙ writes_written n (stage i g h) (stage (i + 1) g h) l (fields_of x) 0 i few long hi (le_refl 12)
        (λ j hj s. absurd (⊎_elim (λ (a : j < 0). not-suc-le-zero a) (λ (a : 12 ≤ j). omega arith) s))
        (λ j hj. rw zero-add (ap (λ (y : Port). get_or (fields_of y) j 0) (stage_done (i + 1) g h i (omega arith) ∙ sym q)))
        (λ p hp apart. stage_other i g h p apart)

    -- its counters are written
    pub pass_counts : (c : Counts) → g i ≡ with_counts c (h i) → with_count_cells i c m ≡ written n (stage (i + 1) g h) l
    unfolding with_count_cells
    pass_counts c q =
        ap (with_count_cells i c) e
        ∙ writes_written n (stage i g h) (stage (i + 1) g h) l (count_fields c) 5 i few long hi (le_refl 12)
        (λ j hj s. ap (λ (y : Port). get_or (fields_of y) j 0) next ∙ before_counts c (h i) j (⊎_elim (λ (a : j < 5). a) (λ (a : 12 ≤ j). absurd (omega arith)) s) ∙ ap (λ (y : Port). get_or (fields_of y) j 0) (sym (stage_left i g h i (le_refl i))))
        (λ j hj. ap (λ (y : Port). get_or (fields_of y) (5 + j) 0) next ∙ count_fields_lem c (h i) j)
        (λ p hp apart. stage_other i g h p apart)
      where
        next : stage (i + 1) g h i ≡ with_counts c (h i)
        next = stage_done (i + 1) g h i (omega arith) ∙ q

    -- it is left as it is
    pub pass_kept : g i ≡ h i → m ≡ written n (stage (i + 1) g h) l
    pass_kept q =
        e
        ∙ written_cong n (stage i g h) (stage (i + 1) g h) l few long
        (λ p hp.
        ⊎_elim
        (λ (x : p < i). stage_done i g h p x ∙ sym (stage_done (i + 1) g h p (omega arith)))
        (λ (x : i ≤ p).
        ⊎_elim
        (λ (y : p < i + 1).
        let r : p ≡ i = omega arith in
        stage_left i g h p x ∙ ap h r ∙ sym q ∙ ap g (sym r) ∙ sym (stage_done (i + 1) g h p y))
        (λ (y : i + 1 ≤ p). stage_left i g h p x ∙ sym (stage_left (i + 1) g h p y))
        (side p (i + 1)))
        (side p i))
