-- From 64 on neither takes a word, and below it the checker computes both at each word. Assumes nothing.
use Rattle.std.proofs.Common.{◌≡◌, refl, ℕ, ◌/◌, ◌%◌, Bool, not, ◌&&◌, ltb, eqb}
use mathlib.Core.Logic.{⊎_elim}
use borrow.Author.Tests.{le-leb, le-ltb}
use Rattle.lists.specs.Bits.{field, above}
use Rattle.lists.specs.Places.{tabulate}
use Rattle.lists.proofs.Places.{side, tabulate_at}
use Rattle.control.specs.Control.{refused}
use Rattle.well.proofs.control_fine.Goals as goal

abbrev said : ℕ → Bool
said w = (ltb w 64 && not (eqb (w % 4) 3)) && not (eqb (w / 4 % 2) (w / 8 % 2))

abbrev fine : ℕ → Bool
fine w = not (refused w)

said_fine : tabulate 64 said ≡ tabulate 64 fine → (w : ℕ) → said w ≡ fine w
unfolding refused above
said_fine e w = ⊎_elim (tabulate_at 64 said fine e w) (λ h. simp (le-ltb w 64 h, le-leb 64 w h)) (side w 64)

pub returns : goal.returns
unfolding refused above field tabulate
returns c = said_fine refl c.args.word
