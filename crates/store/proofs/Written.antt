-- A room of which the first places have been written: what holds before place i, that it holds after some bytes more, and what it comes
-- to at the end. It says nothing of what the room held before.
-- Assumes nothing.
use mathlib.Core.Path.{◌≡◌, ◌∙◌, ap, subst}
use mathlib.Core.List.{List, ◌++◌}
use mathlib.Core.Logic.{⊎_elim}
use Prim.Native.Nat.{ℕ, ◌+◌, ◌-◌, ◌≤◌, ◌<◌}
use native.Mathlib.Nat.{not-suc-le-zero}
use native.Mathlib.Omega.{arith}
use lib.ListN.{length, get_or, take}
use borrow.Rule.Slice.PartMut.{put_mid, post_of}
use Rattle.std.proofs.Common.{length-append, length-drop}
use Rattle.std.proofs.lemmas.List.{length-take-le, get_or-append_right, get_or_append_left, get_or-take}
use Rattle.lists.proofs.Places.{side, tabulated}
use Rattle.table.specs.declared.form.Table.{Table}
use Rattle.image.specs.Image.{byte_at, image_of, image_long}

pub record Written (t : Table) (i : ℕ) (room : List ℕ) : Type 0 where
  pub long : length room ≡ image_long
  pub done : (j : ℕ) → j < i → get_or room j 0 ≡ byte_at t j

module _ (t : Table) (room : List ℕ) where
  pub written_none : length room ≡ image_long → Written t 0 room
  written_none e = record { long = e; done = λ j h. absurd (not-suc-le-zero h) }

  -- k bytes more
  pub written_part : (i k : ℕ) (b : List ℕ) → Written t i room → i + k ≤ image_long → length b ≡ k
      → ((q : ℕ) → q < k → get_or b q 0 ≡ byte_at t (i + q)) → Written t (i + k) (put_mid i k room b)
  written_part i k b W fits long each = record { long = same; done = done }
    where
      size : i ≤ length room
      size = omega (arith, W.long)

      same : length (put_mid i k room b) ≡ image_long
      same = omega (arith, W.long, length-append {A = ℕ}, length-take-le {A = ℕ}, length-drop {A = ℕ})

      done : (j : ℕ) → j < i + k → get_or (put_mid i k room b) j 0 ≡ byte_at t j
      done j h =
          ⊎_elim
          (λ (x : j < i).
          get_or_append_left (take i room) (b ++ post_of i k room) 0 j (omega (arith, length-take-le {A = ℕ}))
          ∙ get_or-take i room j 0 x ∙ W.done j x)
          (λ (x : i ≤ j).
          let q : i + (j - i) ≡ j = omega arith in
          get_or-append_right (take i room) (b ++ post_of i k room) i j 0 (length-take-le i room size) x
          ∙ get_or_append_left b (post_of i k room) 0 (j - i) (omega arith) ∙ each (j - i) (omega arith) ∙ ap (byte_at t) q)
          (side j i)

  -- the same place, counted otherwise
  pub written_at : (i j : ℕ) → i ≡ j → Written t i room → Written t j room
  written_at i j e W = subst (λ (x : ℕ). Written t x room) e W

  pub written_all : Written t image_long room → room ≡ image_of t
  unfolding image_of
  written_all W = tabulated image_long (byte_at t) 0 room W.long W.done
