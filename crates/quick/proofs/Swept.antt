-- What the pass leaves in the cells of a well-made table: a port whose move only counts has made it, and one that is marked is as it was.
-- Assumes nothing.
use Rattle.std.proofs.Common.{◌≡◌, ℕ, zero, suc, ◌+◌, ◌%◌, ◌<◌, ◌≤◌, Bool, true, false, cond, not, eqb, List, length, get_or, sym, refl, ap, ◌∙◌, true≢false, le_refl, add-one, arith, Option, Some, None}
use mathlib.Core.Bool.{false≢true}
use Rattle.sizes.specs.Sizes.{most_ports}
use Rattle.lists.specs.Bits.{choose}
use Rattle.lists.proofs.Bits.{field_low}
use Rattle.power.specs.Power.{tenths}
use Rattle.power.specs.declared.Power.{Power}
use Rattle.control.specs.Control.{enable_of}
use Rattle.control.specs.declared.Enable.{Enable}
use Rattle.control.specs.declared.Enable.TheVariants.{Disabled as Off, Enabled, Forced, Reserved}
use Rattle.port.specs.Changes.{with_counts, quietly}
use Rattle.port.specs.declared.form.Counts.{Counts}
use Rattle.port.specs.declared.form.Port.{Port}
use Rattle.port.specs.declared.form.Reading.{Reading}
use Rattle.diagram.specs.Step.{step}
use Rattle.cells.specs.Cells.{cells_long, counts_of, port_of, port_holds, written}
use Rattle.cells.proofs.CodeLaws.{code_again}
use Rattle.cells.specs.Codes.{state_of}
use Rattle.cells.proofs.Laws.{holds_state, written_self}
use Rattle.cells.proofs.Pass.{stage, pass_none, pass_counts, pass_all}
use Rattle.quick.proofs.Quick.{signs_of, quick_in, quickly, quick_is_step}
use Rattle.quick.specs.Sweep.{signs_by, looked, looked_at, is_marked, looked_cells}
use Rattle.quick.proofs.SweepLaws.{Small, is_counted, glanced, shown, enable_no, look_is}
use Rattle.quick.specs.declared.Look.{Look}

-- what the pass asks of a port's cells: a state that there is, an enable code that is not reserved, counters within bounds
pub record Fair (l : List ℕ) (p : ℕ) : Type 0 where
  pub holds : port_holds l p ≡ true
  pub enable : get_or l (56 + p) 0 % 4 < 3
  pub counts : Small (counts_of l p)

enable_no_lem : (e : ℕ) → e < 4 → enable_no e ≡ choose Off Enabled Forced Reserved e
enable_no_lem zero h = refl
enable_no_lem (suc zero) h = refl
enable_no_lem (suc (suc zero)) h = refl
enable_no_lem (suc (suc (suc zero))) h = refl
enable_no_lem (suc (suc (suc (suc e)))) h = absurd (omega arith)

enable_is : (w : ℕ) → enable_no (w % 4) ≡ enable_of w
unfolding enable_of
enable_is w = enable_no_lem (w % 4) (omega arith) ∙ ap (choose Off Enabled Forced Reserved) (sym (field_low 2 w))

-- the look at a port is the quick answer
pub looked_port : (flags : ℕ) (l : List ℕ) (p : ℕ) → Fair l p → looked_at flags l p ≡ shown (quickly (port_of l p) (signs_by flags)) (port_of l p).counts
unfolding looked_at quickly port_of
looked_port flags l p f =
    let k = get_or l (8 + p) 0 in
    let w = get_or l (56 + p) 0 in
    let d = get_or l (104 + p) 0 in
    ap (λ (x : ℕ). looked x (w % 4) d (signs_by flags) (counts_of l p)) (sym (code_again k (holds_state l p f.holds)))
    ∙ look_is (signs_by flags) (counts_of l p) f.counts (state_of k) (w % 4) d f.enable
    ∙ ap (λ (e : Enable). shown (quick_in (state_of k) e (tenths d) (signs_by flags) (counts_of l p)) (counts_of l p)) (enable_is w)

-- the port after the pass
unfoldable pub swept : ℕ → List ℕ → ℕ → Port
swept flags l p = with_counts (glanced (quickly (port_of l p) (signs_by flags)) (port_of l p).counts) (port_of l p)

module _ (lane l : List ℕ) (n : ℕ) (few : n ≤ most_ports) (long : length l ≡ cells_long) (fair : (p : ℕ) → p < n → Fair l p) where
  abbrev after : ℕ → Port
  after p = swept (get_or lane p 0) l p

  looked_stage : (i : ℕ) → i ≤ n → looked_cells i lane l ≡ written n (stage i after (port_of l)) l
  unfolding looked_cells swept
  looked_stage zero h = pass_none n after (port_of l) l few (omega arith) (written_self n l few (omega arith) (λ p hp. (fair p hp).holds))
  looked_stage (suc i) h =
      pass_counts n after (port_of l) l few (omega arith) i (looked_cells i lane l) (looked_stage i (omega arith)) h (looked_at (get_or lane i 0) l i).counts
      (ap (λ (c : Counts). with_counts c (port_of l i)) (sym (ap (λ (x : Look). x.counts) (looked_port (get_or lane i 0) l i (fair i h)))))
      ∙ ap (λ (k : ℕ). written n (stage k after (port_of l)) l) (add-one i)

  -- the cells after the pass
  pub looked_written : looked_cells n lane l ≡ written n after l
  looked_written = pass_all n after (port_of l) l few (omega arith) (looked_cells n lane l) (looked_stage n (le_refl n))

-- a port that is not marked has made its move
module _ (claim : Power) (flags : ℕ) (l : List ℕ) (p : ℕ) (f : Fair l p) (r : Reading) (signs : signs_of r ≡ signs_by flags) where
  marked_is : is_marked flags l p ≡ not (is_counted (quickly (port_of l p) (signs_by flags)))
  unfolding is_marked
  marked_is = ap (λ (x : Look). not (eqb x.mark 0)) (looked_port flags l p f) ∙ bits (is_counted (quickly (port_of l p) (signs_by flags)))
    where
      bits : (t : Bool) → not (eqb (cond t 0 65535) 0) ≡ not t
      bits true = refl
      bits false = refl

  pub unmarked_moves : is_marked flags l p ≡ false → step claim (port_of l p) r ≡ quietly (swept flags l p)
  unfolding swept
  unmarked_moves e = go (quickly (port_of l p) (signs_by flags)) refl (sym marked_is ∙ e)
    where
      go : (g : Option Counts) → quickly (port_of l p) (signs_by flags) ≡ g → not (is_counted g) ≡ false → step claim (port_of l p) r ≡ quietly (with_counts (glanced (quickly (port_of l p) (signs_by flags)) (port_of l p).counts) (port_of l p))
      go (Some c) q h =
          quick_is_step claim (port_of l p) r c (ap (quickly (port_of l p)) signs ∙ q)
          ∙ ap (λ (x : Option Counts). quietly (with_counts (glanced x (port_of l p).counts) (port_of l p))) (sym q)
      go None q h = absurd (true≢false h)

  -- and one that is marked is as it was
  pub marked_stays : is_marked flags l p ≡ true → swept flags l p ≡ port_of l p
  unfolding swept
  marked_stays e = go (quickly (port_of l p) (signs_by flags)) refl (sym marked_is ∙ e)
    where
      go : (g : Option Counts) → quickly (port_of l p) (signs_by flags) ≡ g → not (is_counted g) ≡ true → with_counts (glanced (quickly (port_of l p) (signs_by flags)) (port_of l p).counts) (port_of l p) ≡ port_of l p
      go (Some c) q h = absurd (false≢true h)
      go None q h = ap (λ (x : Option Counts). with_counts (glanced x (port_of l p).counts) (port_of l p)) q
