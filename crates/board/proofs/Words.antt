-- What follows of the words that a board refuses, and how they are told.
-- Assumes nothing.
use Prim.Native.Nat.{ℕ, ◌<◌}
use mathlib.Core.Path.{◌≡◌, refl, sym}
use mathlib.Core.Bool.{Bool, true, false, ◌||◌, not, false≢true}
use lib.Dec.{eqb, leb}
use borrow.Author.Tests.{le-leb, leb-false}
use Rattle.lists.specs.Bits.{field, above}
use Rattle.lists.specs.Places.{tabulate}
use Rattle.control.specs.ByMask.{limit, said_by}
use Rattle.control.specs.Control as control
use Rattle.control.proofs.Masks.{said_by_mask}
use Rattle.board.specs.Boards.{is_pair, refused}
use Rattle.board.specs.declared.Board.{Board}
use Rattle.board.specs.declared.Board.TheVariants.{Access, FourPair}

-- the access switch's words are those of document 01
pub access_told : (word : ℕ) → control.refused word ≡ refused Access word
unfolding refused control.refused
access_told word = refl

-- the mask of the words below 64 that the four-pair board refuses
abbrev pub not_both : ℕ
not_both = 0x8fff8fff8fff8fff

pub both_told : (word : ℕ) → said_by not_both word ≡ refused FourPair word
unfolding refused said_by above field tabulate
both_told = said_by_mask not_both (refused FourPair) (λ w h. simp (le-leb limit w h)) refl

-- a word that a write takes has nothing above bit 5
pub taken_small : (board : Board) (word : ℕ) → refused board word ≡ false → word < 64
unfolding refused above
taken_small board w e = go (leb 64 w) refl e
  where
    go : (t : Bool) → leb 64 w ≡ t → (t || (eqb (field 0 2 w) 3 || not (is_pair board (field 2 2 w)))) ≡ false → w < 64
    go true q r = absurd (false≢true (sym r))
    go false q r = leb-false 64 w q
