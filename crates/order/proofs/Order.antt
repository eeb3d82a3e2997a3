-- The first number of a list that starts with what is no table and what is ill-made.
-- Assumes nothing.
use Prim.Native.Nat.{ℕ, ◌+◌, ◌*◌, ◌/◌, ◌%◌}
use mathlib.Core.Path.{◌≡◌, refl, sym, ◌∙◌, ap, ap₂}
use mathlib.Core.Bool.{Bool, true, false, not, ◌&&◌, ◌||◌, true≢false, false≢true}
use mathlib.Core.List.{List, ◌∷◌}
use native.Mathlib.Numerals.{add-one}
use lib.Dec.{eqb, ltb}
use lib.ListN.{get_or}
use borrow.Author.Tests.{not-false}
use Rattle.lists.specs.Bits.{field}
use Rattle.lists.specs.Every.{some_below}
use Rattle.lists.proofs.Tests.{not_leb}
use Rattle.power.specs.Power.{over, fits, tenths}
use Rattle.power.specs.declared.Power.{Power}
use Rattle.class.specs.Class.{budgets, budget_of, level_of, over_class}
use Rattle.port.specs.States.{in_disabled}
use Rattle.port.specs.declared.form.State.{State}
use Rattle.sample.specs.Sample.{sample_at, reserved_flags}
use Rattle.table.specs.Drawn.{draws, closed_sum}
use Rattle.table.specs.Parts.{port_at}
use Rattle.table.specs.WellMade.{ill_made}
use Rattle.cells.specs.Cells.{table_of, is_table}
use Rattle.cells.proofs.CodeLaws.{disabled_code}
use Rattle.replies.specs.Calls.{same_alternative, granting, over_supply}
use Rattle.replies.specs.Rest.{AtPort}
use Rattle.replies.proofs.OnLaws.{state_at, control_at, demand_at, class_at}
use Rattle.well.specs.Judged.{well_cells}
use Rattle.well.proofs.Laws.{WellCells, cells_of}
use Rattle.ill.specs.Ill.{ill_cells}
use Rattle.ill.proofs.Ill.{ill_is}
use Rattle.interface.specs.Statement1C.{first_number}

module _ (l : List ℕ) (rs : List (ℕ × Bool)) where
  -- 13, for the one reason or the other
  pub ill_first : ill_cells l ≡ true → 13 ≡ first_number ((13, not (is_table l)) ∷ (13, ill_made (table_of l)) ∷ rs)
  unfolding ill_cells
  ill_first = go (not (is_table l)) (ill_made (table_of l))
    where
      go : (a b : Bool) → (a || b) ≡ true → 13 ≡ first_number ((13, a) ∷ (13, b) ∷ rs)
      go true b e = refl
      go false true e = refl
      go false false e = absurd (false≢true e)

  -- or what comes after it
  pub well_first : ill_cells l ≡ false → first_number ((13, not (is_table l)) ∷ (13, ill_made (table_of l)) ∷ rs) ≡ first_number rs
  unfolding ill_cells
  well_first = go (not (is_table l)) (ill_made (table_of l))
    where
      go : (a b : Bool) → (a || b) ≡ false → first_number ((13, a) ∷ (13, b) ∷ rs) ≡ first_number rs
      go true b e = absurd (true≢false e)
      go false true e = absurd (true≢false e)
      go false false e = refl

pub well_of : (l : List ℕ) → ill_cells l ≡ false → well_cells l ≡ true
well_of l e = not-false (well_cells l) (sym (ill_is l) ∙ e)

pub well_cells_of : (l : List ℕ) → ill_cells l ≡ false → WellCells l
well_cells_of l e = cells_of l (well_of l e)

-- one place more, as a loop counts
pub some_next : (n : ℕ) (f : ℕ → Bool) → some_below (n + 1) f ≡ (some_below n f || f n)
unfolding some_below
some_next n f = rw add-one

-- what a port has of reserved flags, and what it draws with the change
abbrev pub reserved_at : List ℕ → ℕ → Bool
reserved_at block p = reserved_flags (sample_at block (14 * p)).flags

abbrev pub draws_at : List ℕ → ℕ → ℕ → ℕ → ℕ
draws_at l d at p = draws (port_at (granting (tenths d) at (table_of l)) p)

-- ---- the conditions of a port's refusals, asked of its cells

module _ (l : List ℕ) (p : ℕ) (a : AtPort l p) where
  -- "A write that changes the alternative of a port not in DISABLED"
  pub alternative_at : (w : ℕ)
      → (not (same_alternative (port_at (table_of l) p).control w) && not (in_disabled (port_at (table_of l) p).state))
      ≡ (not (eqb (get_or l (56 + p) 0 / 4 % 4) (w / 4 % 4)) && not (eqb (get_or l (8 + p) 0) 0))
  unfolding same_alternative field
  alternative_at w =
      ap₂ (λ (x : ℕ) (s : State). not (same_alternative x w) && not (in_disabled s)) (control_at l p a) (state_at l p a)
      ∙ ap (λ (b : Bool). not (eqb (get_or l (56 + p) 0 / 4 % 4) (w / 4 % 4)) && not b) (disabled_code (get_or l (8 + p) 0))

  -- "Over the class budget: 11."; "11 for 256 to 999"
  pub class_over : (v : ℕ) → over_class v (port_at (table_of l) p).class ≡ (ltb 255 v || ltb (get_or budgets (get_or l (152 + p) 0) 0) (level_of v).0)
  unfolding over_class over budget_of
  class_over v = ap (λ (k : ℕ). ltb 255 v || ltb (get_or budgets k 0) (level_of v).0) (class_at l p a)

  -- "a higher one exactly if all closed ports' demands with the change are at most the stored supply, else 12"
  pub supply_over : (d : Power) → over_supply d p (table_of l) ≡ (ltb (get_or l (104 + p) 0) d.0 && ltb (get_or l 1 0) (closed_sum (granting d p (table_of l))))
  unfolding over_supply over fits table_of
  supply_over d =
      ap₂ (λ (x : Power) (b : Bool). ltb x.0 d.0 && b) (demand_at l p a) (not_leb (closed_sum (granting d p (table_of l))) (get_or l 1 0))
