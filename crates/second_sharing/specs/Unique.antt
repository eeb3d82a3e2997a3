-- One possible answer: for the public function of this crate two results that obey the promise are equal. The promise stands here in the
-- words of the source up to names, as in `Unique` of the crate `statements`.
-- Assumes nothing.
use Rattle.std.specs.Prelude.{ℕ, ◌≡◌, cond, ◌&&◌, List, eqb}
use Rattle.verdict.specs.declared.Verdict.{Verdict}
use Rattle.verdict.specs.declared.Verdict.TheVariants.{Held, NotAsked}
use Rattle.interface.specs.Statement1C.{first_number, tick_list}
use Rattle.second.specs.Unique.{One}
use Rattle.second_sharing.specs.Shared.{none_denied}

pub record Unique : Type 0 where
  pub second_sharing_second_shares : (before block : List ℕ) (figure : ℕ) → One Verdict (λ r. r ≡ cond (eqb (first_number (tick_list before block figure)) 0 && none_denied before) Held NotAsked)
