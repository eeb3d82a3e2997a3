-- What a call answers and what it leaves, where it is known which refusal it is, or which table.
-- Assumes nothing.
use Rattle.std.proofs.Common.{ℕ, ◌≡◌, sym, ◌∙◌, ap, List, Result, Ok}
use Rattle.sizes.specs.Refused.{refused}
use Rattle.sizes.specs.declared.refusals.Refusal.{Refusal}
use Rattle.table.specs.declared.form.Table.{Table}
use Rattle.table.specs.Parts.{Told, tells, refuse}
use Rattle.cells.specs.Cells.{cells_with, cells_of}
use Rattle.cells.specs.Lent.{cells_told, cells_cold}

module _ {A : Type 0} (told : Told (Result A Refusal)) (t : Table) (l : List ℕ) where
  pub told_refused : (k : ℕ) → told ≡ refuse k t → (refused k ≡ told.answer) × (l ≡ cells_told told l)
  unfolding refuse cells_told
  told_refused k e = (ap (λ (x : Told (Result A Refusal)). x.answer) (sym e), ap (λ (x : Told (Result A Refusal)). cells_told x l) (sym e))

  pub told_done : (m : List ℕ) (v w : A) → told ≡ tells w t → v ≡ w → m ≡ cells_with t l → (Ok v ≡ told.answer) × (m ≡ cells_told told l)
  unfolding tells cells_told
  told_done m v w e q s = (ap Ok q ∙ ap (λ (x : Told (Result A Refusal)). x.answer) (sym e), s ∙ ap (λ (x : Told (Result A Refusal)). cells_told x l) (sym e))

  pub cold_refused : (k : ℕ) → told ≡ refuse k t → (refused k ≡ told.answer) × (l ≡ cells_cold told l)
  unfolding refuse cells_cold
  cold_refused k e = (ap (λ (x : Told (Result A Refusal)). x.answer) (sym e), ap (λ (x : Told (Result A Refusal)). cells_cold x l) (sym e))

  pub cold_done : (m : List ℕ) (w : A) → told ≡ tells w t → m ≡ cells_of t → (Ok w ≡ told.answer) × (m ≡ cells_cold told l)
  unfolding tells cells_cold
  cold_done m w e s = (ap (λ (x : Told (Result A Refusal)). x.answer) (sym e), s ∙ ap (λ (x : Told (Result A Refusal)). cells_cold x l) (sym e))
