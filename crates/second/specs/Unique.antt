-- One possible answer: for the public functions of the second demand's crate two results that obey the promise are equal. The promise
-- stands here in the words of the source up to names, as in `Unique` of the crate `statements`.
-- Assumes nothing.
use Rattle.std.specs.Prelude.{ℕ, ◌≡◌, Bool, cond, List, eqb}
use Rattle.verdict.specs.declared.Verdict.{Verdict}
use Rattle.verdict.specs.declared.Verdict.TheVariants.{Held, NotAsked}
use Rattle.interface.specs.Statement1C.{first_number, tick_list}
use Rattle.second.specs.Answers.{closed_cell}

-- two results that obey the promise are equal
abbrev pub One : (A : Type 0) → (A → Type 0) → Type 0
One A promise = (r s : A) → promise r → promise s → r ≡ s

pub record Unique : Type 0 where
  pub second_closed_is_closed : (cells : List ℕ) (p : ℕ) → One Bool (λ r. r ≡ closed_cell cells p)
  pub second_second_tick : (before block : List ℕ) (figure : ℕ) → One Verdict (λ r. r ≡ cond (eqb (first_number (tick_list before block figure)) 0) Held NotAsked)
