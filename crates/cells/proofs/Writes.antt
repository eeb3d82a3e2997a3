-- What is proved of specs/Writes.
-- Assumes nothing.
use mathlib.Core.Path.{◌≡◌, refl, ◌∙◌, ap}
use mathlib.Core.List.{List, [], ◌∷◌}
use Prim.Native.Nat.{ℕ, zero, suc, ◌+◌, ◌*◌, ◌≤◌, ◌<◌}
use native.Mathlib.Nat.{le_of_suc-le-suc, not-suc-le-zero}
use native.Mathlib.Omega.{arith}
use lib.ListN.{length, get_or, set, length-set}
use lib.Seq.{get_or-set_same, get_or-set_other}
use Rattle.sizes.specs.Sizes.{most_ports}
use Rattle.cells.specs.Writes.{writes}

pub length_writes : (vs : List ℕ) (f p : ℕ) (l : List ℕ) → length (writes vs f p l) ≡ length l
unfolding writes
length_writes [] f p l = refl
length_writes (v ∷ vs) f p l = length_writes vs (f + 1) p (set l (8 + most_ports * f + p) v) ∙ length-set l (8 + most_ports * f + p) v

-- what is no cell that was written is as it was
pub writes_other : (vs : List ℕ) (f p : ℕ) (l : List ℕ) (k : ℕ) → ((g : ℕ) → k ≡ 8 + most_ports * g + p → f ≤ g → g < f + length vs → ⊥) → get_or (writes vs f p l) k 0 ≡ get_or l k 0
unfolding writes
writes_other [] f p l k h = refl
writes_other (v ∷ vs) f p l k h =
    writes_other vs (f + 1) p (set l (8 + most_ports * f + p) v) k (λ g e m o. h g e (omega arith) (omega arith))
    ∙ get_or-set_other l (8 + most_ports * f + p) k v 0 (λ e. h f e (omega arith) (omega arith))

-- a field that was written has its value
pub writes_at : (vs : List ℕ) (f p : ℕ) (l : List ℕ) (g : ℕ) → g < length vs → 8 + most_ports * (f + g) + p < length l → get_or (writes vs f p l) (8 + most_ports * (f + g) + p) 0 ≡ get_or vs g 0
unfolding writes
writes_at [] f p l g h fits = absurd (not-suc-le-zero h)
writes_at (v ∷ vs) f p l zero h fits =
    let e : 8 + most_ports * (f + 0) + p ≡ 8 + most_ports * f + p = omega arith in
    ap (λ (k : ℕ). get_or (writes vs (f + 1) p (set l (8 + most_ports * f + p) v)) k 0) e
    ∙ writes_other vs (f + 1) p (set l (8 + most_ports * f + p) v) (8 + most_ports * f + p) (λ g e m o. omega arith)
    ∙ get_or-set_same l (8 + most_ports * f + p) v 0 (omega arith)
writes_at (v ∷ vs) f p l (suc g) h fits =
    let e : 8 + most_ports * (f + suc g) + p ≡ 8 + most_ports * (f + 1 + g) + p = omega arith in
    ap (λ (k : ℕ). get_or (writes vs (f + 1) p (set l (8 + most_ports * f + p) v)) k 0) e
    ∙ writes_at vs (f + 1) p (set l (8 + most_ports * f + p) v) g (le_of_suc-le-suc h) (omega (arith, length-set l (8 + most_ports * f + p) v))
