-- What a call through the C interface comes to, and what it leaves in what the caller lent.
use Rattle.std.specs.Prelude.{ℕ, Result, Ok, Err}
use Rattle.sizes.specs.Refused.{number}
use Rattle.sizes.specs.declared.refusals.Refusal.{Refusal}

-- include/ipaqsuni.h: "Each function answers 0, or the number of the refusal."
abbrev pub number_of : {X : Type 0} → Result X Refusal → ℕ
number_of (Ok x) = 0
number_of (Err refusal) = number refusal

-- what stands in a lent place afterwards, where it held `before`: a refusal writes no byte anywhere
abbrev pub leaves : {X Y : Type 0} → (X → Y) → Result X Refusal → Y → Y
leaves f (Ok x) before = f x
leaves f (Err refusal) before = before
