-- What a call on a lent table leaves in the places lent for its answer. What it leaves in the cells is `cells_told` or `cells_cold` of the
-- crate `cells`.
use Rattle.std.specs.Prelude.{ℕ, Result, Ok, Err}
use Rattle.sizes.specs.declared.refusals.Refusal.{Refusal}
use Rattle.table.specs.declared.form.Closed.{Closed}

-- include/ipaqsuni.h: "The port's status word goes to *status"; "A refusal writes no cell and no byte anywhere: not in the table, and in
-- no place for an answer."
abbrev pub word_left : Result ℕ Refusal → ℕ → ℕ
word_left (Ok word) before = word
word_left (Err refusal) before = before

-- include/ipaqsuni.h: "*mask_a and *mask_b get a bit for each port that is closed on that alternative, *closed the number of closed ports."
abbrev pub mask_a_left : Result Closed Refusal → ℕ → ℕ
mask_a_left (Ok closed) before = closed.a
mask_a_left (Err refusal) before = before

abbrev pub mask_b_left : Result Closed Refusal → ℕ → ℕ
mask_b_left (Ok closed) before = closed.b
mask_b_left (Err refusal) before = before

abbrev pub closed_left : Result Closed Refusal → ℕ → ℕ
closed_left (Ok closed) before = closed.number
closed_left (Err refusal) before = before
