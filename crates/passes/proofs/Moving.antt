-- The passes that take a port out of its cells, move it and put it back: how far they have come.
-- Assumes nothing.
use Prim.Native.Nat.{ℕ, zero, suc, ◌+◌, ◌*◌, ◌≤◌, ◌<◌}
use mathlib.Core.Path.{◌≡◌, refl, sym, ◌∙◌, ap, ap₂}
use mathlib.Core.Bool.{Bool, true, false, cond, ◌&&◌, ◌||◌, or-false, false≢true}
use mathlib.Core.List.{List}
use mathlib.Core.Logic.{⊎_elim}
use native.Mathlib.Nat.{add-zero, add-suc}
use native.Mathlib.Omega.{arith}
use lib.Dec.{eqb}
use lib.ListN.{length, get_or}
use borrow.Author.Tests.{eqb-true}
use Rattle.sizes.specs.Sizes.{most_ports, sample_bytes}
use Rattle.lists.specs.Every.{some_below}
use Rattle.lists.specs.Places.{Filled}
use Rattle.lists.proofs.Places.{side}
use Rattle.port.specs.Changes.{quietly}
use Rattle.port.specs.declared.form.Port.{Port}
use Rattle.power.specs.Power.{forced}
use Rattle.sample.specs.Sample.{sample_at}
use Rattle.diagram.specs.Step.{step}
use Rattle.settling.specs.Claim.{settling_changes, settled_as}
use Rattle.settling.proofs.Claim.{settled_still}
use Rattle.cells.specs.Cells.{cells_long, port_of, written}
use Rattle.cells.specs.Holds.{Holds}
use Rattle.cells.proofs.Laws.{written_self, written_long, written_cong}
use Rattle.cells.proofs.Pass.{stage, stage_done, stage_left, pass_none, pass_all, pass_port, pass_field, pass_more, pass_kept}
use Rattle.cells.specs.Writes.{with_port_cells}
use Rattle.block.specs.Digest.{digest}
use Rattle.claims.specs.Claimed.{is_set}
use Rattle.passes.specs.Passes.{whole_move, marked_move}

-- a pass over cells l that makes g of their ports
module _ (n : ℕ) (g : ℕ → Port) (l : List ℕ) (few : n ≤ most_ports) (long : length l ≡ cells_long) where
  abbrev Come : ℕ → List ℕ → Type 0
  Come i m = m ≡ written n (stage i g (port_of l)) l

  pub come_none : Holds n l → Come 0 l
  come_none holds = pass_none n g (port_of l) l few (omega arith) (written_self n l few (omega arith) holds)

  pub come_all : (m : List ℕ) → Come n m → m ≡ written n g l
  come_all = pass_all n g (port_of l) l few (omega arith)

  module _ (i : ℕ) (m : List ℕ) (e : Come i m) where
    pub come_long : length m ≡ cells_long
    come_long = ap length e ∙ written_long n (stage i g (port_of l)) l ∙ long

    module _ (h : i < n) where
      pub come_port : port_of m i ≡ port_of l i
      come_port = pass_port n g (port_of l) l few (omega arith) i m e h

      pub come_class : get_or m (152 + i) 0 ≡ get_or l (152 + i) 0
      unfolding port_of
      come_class = pass_field n g (port_of l) l few (omega arith) i m e h 3 (omega arith)

      -- the port at the place that is next is put back, or not
      pub come_more : (changes : Bool) (x : Port) → (changes ≡ true → x ≡ g i) → (changes ≡ false → g i ≡ port_of l i) → cond changes (with_port_cells i x m) m ≡ written n (stage (i + 1) g (port_of l)) l
      come_more true x put left = pass_more n g (port_of l) l few (omega arith) i m e h x (put refl)
      come_more false x put left = pass_kept n g (port_of l) l few (omega arith) i m e h (left refl)

      -- it settles
      pub come_settled : (r : ℕ) (kept : Bool) → g i ≡ (settled_as r kept (port_of l i)).port
          → cond (settling_changes r kept) (with_port_cells i (settled_as r kept (port_of m i)).port m) m ≡ written n (stage (i + 1) g (port_of l)) l
      come_settled r kept q =
          come_more (settling_changes r kept) (settled_as r kept (port_of m i)).port
          (λ t. ap (λ (x : Port). (settled_as r kept x).port) come_port ∙ sym q)
          (λ f. q ∙ settled_still r kept (port_of l i) f)

      -- it takes its whole step if it is marked
      pub come_moved : (mark : ℕ) (block : List ℕ) → marked_move mark block m i ≡ marked_move mark block l i
      unfolding marked_move whole_move
      come_moved mark block = ap (λ (x : Port). cond (is_set mark) (step forced x (digest (sample_at block (sample_bytes * i)))) (quietly x)) come_port

      pub come_stepped : (mark : ℕ) (block : List ℕ) → g i ≡ (marked_move mark block l i).port
          → cond (is_set mark) (with_port_cells i (whole_move block m i).port m) m ≡ written n (stage (i + 1) g (port_of l)) l
      unfolding marked_move whole_move
      come_stepped mark block q =
          come_more (is_set mark) (whole_move block m i).port
          (λ t. ap (λ (x : Port). (step forced x (digest (sample_at block (sample_bytes * i)))).port) come_port ∙ sym (q ∙ ap (λ (b : Bool). (cond b (step forced (port_of l i) (digest (sample_at block (sample_bytes * i)))) (quietly (port_of l i))).port) t))
          (λ f. q ∙ ap (λ (b : Bool). (cond b (step forced (port_of l i) (digest (sample_at block (sample_bytes * i)))) (quietly (port_of l i))).port) f)

    -- some places are passed over, since their ports stay as they are
    pub come_over : (j : ℕ) → i ≤ j → ((p : ℕ) → i ≤ p → p < j → p < n → g p ≡ port_of l p) → m ≡ written n (stage j g (port_of l)) l
    come_over j h same =
        e ∙ written_cong n (stage i g (port_of l)) (stage j g (port_of l)) l few (omega arith)
        (λ p hp.
        ⊎_elim
        (λ (x : p < i). stage_done i g (port_of l) p x ∙ sym (stage_done j g (port_of l) p (omega arith)))
        (λ (x : i ≤ p).
        stage_left i g (port_of l) p x
        ∙ ⊎_elim
        (λ (y : p < j). sym (same p x y hp) ∙ sym (stage_done j g (port_of l) p y))
        (λ (y : j ≤ p). sym (stage_left j g (port_of l) p y))
        (side p j))
        (side p i))

-- ---- eight places that are passed over at once

-- the numbers of eight places are 0
abbrev pub eight_zero : List ℕ → ℕ → Bool
eight_zero l p =
    ((((((eqb (get_or l p 0) 0 && eqb (get_or l (p + 1) 0) 0) && eqb (get_or l (p + 2) 0) 0) && eqb (get_or l (p + 3) 0) 0) && eqb (get_or l (p + 4) 0) 0) && eqb (get_or l (p + 5) 0) 0)
    && eqb (get_or l (p + 6) 0) 0) && eqb (get_or l (p + 7) 0) 0

eight_tests : (a b c d e f g h : Bool) → (((((((a && b) && c) && d) && e) && f) && g) && h) ≡ true → (a ≡ true) × (b ≡ true) × (c ≡ true) × (d ≡ true) × (e ≡ true) × (f ≡ true) × (g ≡ true) × (h ≡ true)
eight_tests true true true true true true true true q = (refl, refl, refl, refl, refl, refl, refl, refl)
eight_tests false b c d e f g h q = absurd (false≢true q)
eight_tests true false c d e f g h q = absurd (false≢true q)
eight_tests true true false d e f g h q = absurd (false≢true q)
eight_tests true true true false e f g h q = absurd (false≢true q)
eight_tests true true true true false f g h q = absurd (false≢true q)
eight_tests true true true true true false g h q = absurd (false≢true q)
eight_tests true true true true true true false h q = absurd (false≢true q)
eight_tests true true true true true true true false q = absurd (false≢true q)

pub eight_clear : (l : List ℕ) (p : ℕ) → eight_zero l p ≡ true → (q : ℕ) → q < 8 → get_or l (p + q) 0 ≡ 0
eight_clear l p e q h = go (eight_tests _ _ _ _ _ _ _ _ e) q h
  where
    at : ℕ → Bool
    at k = eqb (get_or l (p + k) 0) 0

    go : (eqb (get_or l p 0) 0 ≡ true) × (at 1 ≡ true) × (at 2 ≡ true) × (at 3 ≡ true) × (at 4 ≡ true) × (at 5 ≡ true) × (at 6 ≡ true) × (at 7 ≡ true) → (q : ℕ) → q < 8 → get_or l (p + q) 0 ≡ 0
    go t zero h = rw add-zero (eqb-true _ _ t.0)
    go t (suc zero) h = eqb-true _ _ t.1
    go t (suc (suc zero)) h = eqb-true _ _ t.2
    go t (suc (suc (suc zero))) h = eqb-true _ _ t.3
    go t (suc (suc (suc (suc zero)))) h = eqb-true _ _ t.4
    go t (suc (suc (suc (suc (suc zero))))) h = eqb-true _ _ t.5
    go t (suc (suc (suc (suc (suc (suc zero)))))) h = eqb-true _ _ t.6
    go t (suc (suc (suc (suc (suc (suc (suc zero))))))) h = eqb-true _ _ t.7
    go t (suc (suc (suc (suc (suc (suc (suc (suc q)))))))) h = absurd (omega arith)

-- places that hold already what they are to hold
pub filled_skip : (f : ℕ → ℕ) (old now : List ℕ) (i j : ℕ) → i ≤ j → Filled 0 f old i now → ((p : ℕ) → i ≤ p → p < j → get_or now p 0 ≡ f p) → Filled 0 f old j now
filled_skip f old now i j h F same =
    record {
      long = F.long;
      done = λ p l. ⊎_elim (λ (x : p < i). F.done p x) (λ (x : i ≤ p). same p x l) (side p i);
      left = λ p l. F.left p (omega arith);
    }

-- and of which none passes a test
pub some_skip : (f : ℕ → Bool) (i k : ℕ) → ((p : ℕ) → i ≤ p → p < i + k → f p ≡ false) → some_below (i + k) f ≡ some_below i f
unfolding some_below
some_skip f i zero none = ap (λ (n : ℕ). some_below n f) (add-zero i)
some_skip f i (suc k) none =
    ap (λ (n : ℕ). some_below n f) (add-suc i k)
    ∙ ap₂ ◌||◌ (some_skip f i k (λ p a b. none p a (omega arith))) (none (i + k) (omega arith) (omega arith))
    ∙ or-false (some_below i f)
