-- What is proved of specs/OnLaws.
-- Assumes nothing.
use Prim.Native.Nat.{ℕ, ◌+◌, ◌<◌}
use mathlib.Core.Path.{◌≡◌, refl, sym, ◌∙◌, ap}
use mathlib.Core.Bool.{Bool, true, false, cond}
use mathlib.Core.List.{List, ◌∷◌}
use native.Mathlib.Omega.{arith}
use lib.Dec.{eqb, leb}
use lib.ListN.{get_or, set}
use borrow.Author.Tests.{lt-leb, leb-false, eqb-true, eqb-false}
use Rattle.std.specs.Prelude.{Result, Ok, Err}
use Rattle.sizes.specs.Refused.{refusal}
use Rattle.sizes.specs.Sizes.{most_ports}
use Rattle.sizes.specs.declared.refusals.Refusal.{Refusal}
use Rattle.lists.specs.Ladder.{ladder}
use Rattle.power.specs.Power.{tenths}
use Rattle.power.specs.declared.Power.{Power}
use Rattle.port.specs.States.{closed, in_power_on}
use Rattle.port.specs.declared.form.Port.{Port}
use Rattle.table.specs.Drawn.{draws}
use Rattle.table.specs.Parts.{Told, port_at, with_port, refuse}
use Rattle.table.specs.WellMade.{ill_made}
use Rattle.cells.specs.Cells.{count_cell, port_of, table_of, is_table, cells_with}
use Rattle.cells.specs.Codes.{state_of, latch_byte, latches_of}
use Rattle.cells.proofs.CodeLaws.{power_on_code}
use Rattle.cells.proofs.Laws.{table_at}
use Rattle.cells.proofs.Single.{single, with_port_same, with_port_other}
use Rattle.cells.specs.Lent.{cells_told}
use Rattle.cells.proofs.LentLaws.{told_refused}
use Rattle.well.specs.Judged.{well_cells, port_named}
use Rattle.well.proofs.Laws.{cells_of, ill_cells_lem, well_goes}
use Rattle.replies.specs.Calls.{with_control, unlatched, demanding, granting}
use Rattle.replies.specs.Rest.{AtPort}

pub at_port : (l : List ℕ) (p : ℕ) → well_cells l ≡ true → p < count_cell l → AtPort l p
at_port l p e h = let c = cells_of l e in record { well = e; below = h; few = c.few_ports; long = c.long; class = c.class p h }

module _ (l : List ℕ) (p : ℕ) (a : AtPort l p) where
  -- a port's fields are its cells
  pub port_at_lem : port_at (table_of l) p ≡ port_of l p
  port_at_lem = table_at l p (omega arith)

  pub state_at : (port_at (table_of l) p).state ≡ state_of (get_or l (8 + p) 0)
  unfolding port_of
  state_at = ap (λ (x : Port). x.state) port_at_lem

  pub control_at : (port_at (table_of l) p).control ≡ get_or l (56 + p) 0
  unfolding port_of
  control_at = ap (λ (x : Port). x.control) port_at_lem

  pub demand_at : (port_at (table_of l) p).demand ≡ tenths (get_or l (104 + p) 0)
  unfolding port_of
  demand_at = ap (λ (x : Port). x.demand) port_at_lem

  pub class_at : (port_at (table_of l) p).class ≡ get_or l (152 + p) 0
  unfolding port_of
  class_at = ap (λ (x : Port). x.class) port_at_lem

  pub latches_at : (port_at (table_of l) p).latches ≡ latches_of (get_or l (200 + p) 0)
  unfolding port_of
  latches_at = ap (λ (x : Port). x.latches) port_at_lem

  -- "for a port in POWER_ON (else 5)", asked of its cell
  pub power_on_at_lem : in_power_on (port_at (table_of l) p).state ≡ eqb (get_or l (8 + p) 0) 6
  power_on_at_lem = ap in_power_on state_at ∙ power_on_code (get_or l (8 + p) 0)

-- what a call knows of the port that it is told
pub record Named (l : List ℕ) (n p : ℕ) : Type 0 where
  pub same : p ≡ n
  pub well : well_cells l ≡ true
  pub below : n < count_cell l

pub named : (l : List ℕ) (n p : ℕ) → port_named l n ≡ Ok p → Named l n p
unfolding port_named
named l n p e = go (well_cells l) refl (leb (count_cell l) n) refl
  where
    go : (a : Bool) → well_cells l ≡ a → (b : Bool) → leb (count_cell l) n ≡ b → Named l n p
    go false f b g = let h = simp f at e in cc
    go true f true g = let h = simp (f, g) at e in cc
    go true f false g = let h = simp (f, g) at e in record { same = cc; well = f; below = leb-false (count_cell l) n g }

-- every call that names a port: 13 and 2, and then what the ladder asks of it
module _ {A : Type 0} (l : List ℕ) (n : ℕ) (rs : List (ℕ × Bool)) (value : Told (Result A Refusal)) where
  abbrev call : Told (Result A Refusal)
  call = cond (is_table l) (ladder ((13, ill_made (table_of l)) ∷ (2, leb (table_of l).count n) ∷ rs) (λ k. refuse k (table_of l)) value) (refuse 13 (table_of l))

  pub call_ill : well_cells l ≡ false → call ≡ refuse 13 (table_of l)
  unfolding table_of
  call_ill e = ill_cells_lem l ((2, leb (table_of l).count n) ∷ rs) (λ k. refuse k (table_of l)) value e

  pub call_no_port : well_cells l ≡ true → leb (count_cell l) n ≡ true → call ≡ refuse 2 (table_of l)
  unfolding table_of
  call_no_port e h = well_goes l ((2, leb (table_of l).count n) ∷ rs) (λ k. refuse k (table_of l)) value e ∙ simp h

  pub call_refuses : (r : Refusal) → port_named l n ≡ Err r → (Err r ≡ call.answer) × (l ≡ cells_told call l)
  unfolding port_named table_of
  call_refuses r e = go (well_cells l) refl (leb (count_cell l) n) refl
    where
      with_number : (k : ℕ) → call ≡ refuse k (table_of l) → refusal k ≡ r → (Err r ≡ call.answer) × (l ≡ cells_told call l)
      with_number k q s = let told = told_refused call (table_of l) l k q in (ap (λ (x : Refusal). Err x) (sym s) ∙ told.0, told.1)

      go : (a : Bool) → well_cells l ≡ a → (b : Bool) → leb (count_cell l) n ≡ b → (Err r ≡ call.answer) × (l ≡ cells_told call l)
      go false f b g = with_number 13 (call_ill f) (let h = simp f at e in cc)
      go true f true g = with_number 2 (call_no_port f g) (let h = simp (f, g) at e in cc)
      go true f false g = let h = simp (f, g) at e in cc

  pub call_goes : well_cells l ≡ true → n < count_cell l → call ≡ ladder rs (λ k. refuse k (table_of l)) value
  unfolding table_of
  call_goes e h = well_goes l ((2, leb (table_of l).count n) ∷ rs) (λ k. refuse k (table_of l)) value e ∙ simp (lt-leb (count_cell l) n h)

module _ (l : List ℕ) (e : well_cells l ≡ true) (p : ℕ) (h : p < count_cell l) where
  -- ---- the one cell that each writes

  pub control_cell : (w : ℕ) → set l (56 + p) w ≡ cells_with (with_port p (with_control w (port_at (table_of l) p)) (table_of l)) l
  unfolding with_control
  control_cell w = let c = cells_of l e in single l c.long c.few_ports c.holds p 1 w (with_control w (port_at (table_of l) p)) h (omega arith) refl

  pub demand_cell : (d : Power) → set l (104 + p) d.0 ≡ cells_with (granting d p (table_of l)) l
  unfolding demanding
  demand_cell d = let c = cells_of l e in single l c.long c.few_ports c.holds p 2 d.0 (demanding d (port_at (table_of l) p)) h (omega arith) refl

  pub latch_cell : set l (200 + p) 0 ≡ cells_with (with_port p (unlatched (port_at (table_of l) p)) (table_of l)) l
  unfolding unlatched latch_byte
  latch_cell = let c = cells_of l e in single l c.long c.few_ports c.holds p 4 0 (unlatched (port_at (table_of l) p)) h (omega arith) refl

-- ---- "all closed ports' demands with the change"

pub draws_with : (l : List ℕ) (d : Power) (p q : ℕ) → q < most_ports
    → draws (port_at (granting d p (table_of l)) q) ≡ cond (closed (state_of (get_or l (8 + q) 0))) (cond (eqb q p) d.0 (get_or l (104 + q) 0)) 0
unfolding draws demanding port_of
draws_with l d p q h = go (eqb q p) refl
  where
    go : (b : Bool) → eqb q p ≡ b → draws (port_at (granting d p (table_of l)) q) ≡ cond (closed (state_of (get_or l (8 + q) 0))) (cond b d.0 (get_or l (104 + q) 0)) 0
    go true e =
        let s : q ≡ p = eqb-true q p e in
        ap draws (ap (port_at (granting d p (table_of l))) s ∙ with_port_same l p (demanding d (port_at (table_of l) p)) (omega arith) ∙ ap (demanding d) (ap (port_at (table_of l)) (sym s) ∙ table_at l q h))
    go false e = ap draws (with_port_other l p (demanding d (port_at (table_of l) p)) q (eqb-false q p e) h)
