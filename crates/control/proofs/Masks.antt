-- How a mask tells words, and that `refused` is told by one.
-- Assumes nothing.
use Prim.Native.Nat.{ℕ, ◌≤◌}
use mathlib.Core.Path.{◌≡◌, refl, sym}
use mathlib.Core.Bool.{Bool, true}
use mathlib.Core.Logic.{⊎_elim}
use borrow.Author.Tests.{le-leb}
use Rattle.lists.specs.Bits.{field, above}
use Rattle.lists.specs.Places.{tabulate}
use Rattle.lists.proofs.Places.{side, tabulate_at}
use Rattle.control.specs.ByMask.{limit, said_by}
use Rattle.control.specs.Control.{refused}

-- a mask that says what a test of words says at each below 64, where the test passes from there on, says it of every word
pub said_by_mask : (mask : ℕ) (test : ℕ → Bool) → ((word : ℕ) → limit ≤ word → test word ≡ true) → tabulate limit (said_by mask) ≡ tabulate limit test → (word : ℕ) → said_by mask word ≡ test word
unfolding said_by
said_by_mask mask test high e word =
    ⊎_elim (tabulate_at limit (said_by mask) test e word) (λ h. simp (le-leb limit word h) (sym (high word h))) (side word limit)

-- the mask of the words below 64 that are refused
abbrev pub refused_mask : ℕ
refused_mask = 0xf88ff88ff88ff88f

pub refused_told : (word : ℕ) → said_by refused_mask word ≡ refused word
unfolding refused said_by above field tabulate
refused_told = said_by_mask refused_mask refused (λ w h. simp (le-leb limit w h)) refl
