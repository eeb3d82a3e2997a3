-- The refusals of a tick, judged one after the other: the first is given, or the supply that the figure is.
-- Assumes nothing.
use Prim.Native.Nat.{ℕ, ◌*◌, ◌≤◌}
use mathlib.Core.Path.{◌≡◌, refl, sym, ◌∙◌, ap}
use mathlib.Core.Bool.{Bool, true, false, cond, not, not-not}
use mathlib.Core.List.{List, [], ◌∷◌}
use lib.Dec.{eqb, ltb}
use lib.ListN.{length, replicate}
use borrow.Author.Tests.{eqb-true, ltb-false}
use Rattle.std.specs.Prelude.{Result, Ok, Err}
use Rattle.sizes.specs.Sizes.{most_ports, most_supply, sample_bytes}
use Rattle.sizes.specs.Refused.{refused}
use Rattle.sizes.specs.declared.refusals.Refusal.{Refusal}
use Rattle.lists.specs.Every.{some_below}
use Rattle.lists.proofs.Every.{nowhere}
use Rattle.lists.specs.Ladder.{ladder}
use Rattle.power.specs.Power.{tenths}
use Rattle.power.specs.declared.Power.{Power}
use Rattle.sample.specs.Sample.{sample_at, reserved_flags}
use Rattle.table.specs.Parts.{Told, refuse}
use Rattle.table.specs.declared.form.Closed.{Closed}
use Rattle.table.specs.declared.form.Table.{Table}
use Rattle.cells.specs.Cells.{count_cell, table_of}
use Rattle.well.specs.Judged.{well_cells}
use Rattle.well.proofs.Laws.{ill_cells_lem, well_goes}
use Rattle.boards.specs.Masks.{answered}
use Rattle.boards.specs.Sharing.{table_after}
use Rattle.passes.specs.OnCells.{tick_on}
use Rattle.block.specs.Flags.{flags_of_port, flags_fine, flag_lane}
use Rattle.passes.specs.Passes.{checked_on, Ready}
use Rattle.passes.specs.Tick.{moved_at, flags_reserved, tick}

-- the outcome, by the four tests
abbrev by : Bool → Bool → Bool → Bool → Power → Result Power Refusal
by w a b c s = cond w (cond a (cond b (refused 4) (cond c (Ok s) (refused 3))) (refused 1)) (refused 13)

module _ (l block : List ℕ) (figure : ℕ) where
  abbrev t : Table
  t = table_of l

  abbrev pub outcome : Result Power Refusal
  outcome = checked_on (well_cells l) (count_cell l) block figure

  -- what a tick tells then
  abbrev pub told : Result Power Refusal → Told (Result Closed Refusal)
  told (Ok s) = answered (table_after t (moved_at t block) s)
  told (Err r) = record { table = t; answer = Err r }

  abbrev pub value : Told (Result Closed Refusal)
  value = told (Ok (tenths figure))

  flags_are : flags_reserved t block ≡ not (flags_fine (count_cell l) block)
  unfolding flags_reserved flags_fine flags_of_port table_of
  flags_are = sym (not-not (some_below (count_cell l) (λ p. reserved_flags (sample_at block (sample_bytes * p)).flags))) ∙ ap not (nowhere (count_cell l) (λ p. reserved_flags (sample_at block (sample_bytes * p)).flags))

  -- the tick is its refusal, or the value
  pub judged : tick_on l block figure ≡ told outcome
  unfolding tick_on tick checked_on table_of refuse
  judged = go (well_cells l) refl
    where
      rest : List (ℕ × Bool)
      rest = (1, not (eqb (length block) (sample_bytes * count_cell l))) ∷ (4, ltb most_supply figure) ∷ (3, flags_reserved t block) ∷ []

      k : Bool → Result Power Refusal
      k w = by w (eqb (length block) (sample_bytes * count_cell l)) (ltb most_supply figure) (flags_fine (count_cell l) block) (tenths figure)

      ends : (a b c : Bool) → ladder ((1, not a) ∷ (4, b) ∷ (3, not c) ∷ []) (λ j. refuse j t) value ≡ told (by true a b c (tenths figure))
      ends true true c = refl
      ends true false true = refl
      ends true false false = refl
      ends false b c = refl

      go : (w : Bool) → well_cells l ≡ w → tick_on l block figure ≡ told (k w)
      go true q =
          well_goes l rest (λ j. refuse j t) value q
          ∙ ap (λ (b : Bool). ladder ((1, not (eqb (length block) (sample_bytes * count_cell l))) ∷ (4, ltb most_supply figure) ∷ (3, b) ∷ []) (λ j. refuse j t) value) flags_are
          ∙ ends (eqb (length block) (sample_bytes * count_cell l)) (ltb most_supply figure) (flags_fine (count_cell l) block)
      go false q = ill_cells_lem l rest (λ j. refuse j t) value q

  -- what it means that nothing is refused
  pub clear : (s : Power) → outcome ≡ Ok s → (well_cells l ≡ true) × (length block ≡ sample_bytes * count_cell l) × (figure ≤ most_supply) × (flags_fine (count_cell l) block ≡ true)
  unfolding checked_on
  clear s e = go (well_cells l) (eqb (length block) (sample_bytes * count_cell l)) (ltb most_supply figure) (flags_fine (count_cell l) block) refl refl refl refl e
    where
      go : (w a b c : Bool) → well_cells l ≡ w → eqb (length block) (sample_bytes * count_cell l) ≡ a → ltb most_supply figure ≡ b → flags_fine (count_cell l) block ≡ c
          → by w a b c (tenths figure) ≡ Ok s
          → (well_cells l ≡ true) × (length block ≡ sample_bytes * count_cell l) × (figure ≤ most_supply) × (flags_fine (count_cell l) block ≡ true)
      go true true true c p q r f z = absurd (cc)
      go true true false true p q r f z = (p, eqb-true _ _ q, ltb-false most_supply figure r, f)
      go true true false false p q r f z = absurd (cc)
      go true false b c p q r f z = absurd (cc)
      go false a b c p q r f z = absurd (cc)

  pub ready : (lane : List ℕ) (s : Power) → outcome ≡ Ok s → lane ≡ flag_lane (count_cell l) block (replicate most_ports 0) → Ready l block lane
  ready lane s e f = let h = clear s e in record { well = h.0; sized = h.1; fine = h.3; flags = f }
