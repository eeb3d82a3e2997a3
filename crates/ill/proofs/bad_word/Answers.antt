-- `bad_word` is `refused`: from 64 on both refuse a word, and below it the checker computes both at each word.
-- Assumes nothing.
use Prim.Native.Nat.{ℕ, ◌/◌, ◌%◌}
use mathlib.Core.Path.{◌≡◌, refl}
use mathlib.Core.Bool.{Bool, ◌||◌}
use mathlib.Core.Logic.{⊎_elim}
use lib.Dec.{leb, eqb}
use borrow.Author.Tests.{le-leb}
use Rattle.lists.specs.Bits.{field, above}
use Rattle.lists.specs.Places.{tabulate}
use Rattle.lists.proofs.Places.{side, tabulate_at}
use Rattle.control.specs.Control.{refused}
use Rattle.ill.proofs.bad_word.Goals as goal

abbrev said : ℕ → Bool
said w = ((leb 64 w || eqb (w % 4) 3) || eqb (w / 4 % 4) 0) || eqb (w / 4 % 4) 3

said_refused : tabulate 64 said ≡ tabulate 64 refused → (w : ℕ) → said w ≡ refused w
unfolding refused above
said_refused e w = ⊎_elim (tabulate_at 64 said refused e w) (λ h. simp (le-leb 64 w h)) (side w 64)

pub returns : goal.returns
unfolding refused above field tabulate
returns c = said_refused refl c.args.word
