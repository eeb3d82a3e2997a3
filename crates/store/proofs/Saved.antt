-- What stands in the cells of a port that is saved: a state, a class and latches of one byte each.
-- Assumes nothing.
use mathlib.Core.Path.{◌≡◌, sym, ap₂}
use mathlib.Core.Bool.{true}
use mathlib.Core.List.{List, [], ◌∷◌}
use Prim.Native.Nat.{ℕ, ◌+◌, ◌≤◌, ◌<◌}
use native.Mathlib.Omega.{arith}
use lib.Dec.{eqb, ltb}
use lib.ListN.{length, get_or}
use borrow.Author.Tests.{eqb-true, ltb-true}
use Rattle.std.specs.Int.{to_be_bytes}
use mir.Syntax.{w16}
use Rattle.sizes.specs.Sizes.{most_ports}
use Rattle.lists.specs.Every.{every}
use Rattle.lists.proofs.Every.{every_at}
use Rattle.lists.proofs.Tests.{and_left, and_right}
use Rattle.port.specs.States.{code_of}
use Rattle.cells.specs.Cells.{port_holds, cells_long}
use Rattle.cells.proofs.CodeLaws.{code_again, latches_again}
use Rattle.cells.specs.Codes.{state_of, latch_byte, latches_of}
use Rattle.cells.proofs.Laws.{holds_state, holds_latches}
use Rattle.image.specs.Image.{word, port_saves, imageable}

-- the two bytes of a word
pub bytes : (n : ℕ) (b : List ℕ) → n < 65536 → b ≡ to_be_bytes w16 n → b ≡ word n
bytes n b h e = rw e (ap₂ (λ (x y : ℕ). x ∷ y ∷ []) (omega arith) (omega arith))

module _ (l : List ℕ) (p : ℕ) (e : port_saves l p ≡ true) where
  holds : port_holds l p ≡ true
  unfolding port_saves
  holds = and_left (port_holds l p) (ltb (get_or l (152 + p) 0) 256) e

  pub state_small : get_or l (8 + p) 0 ≤ 9
  state_small = holds_state l p holds

  pub latches_small : get_or l (200 + p) 0 < 256
  latches_small = holds_latches l p holds

  pub class_small : get_or l (152 + p) 0 < 256
  unfolding port_saves
  class_small = ltb-true (get_or l (152 + p) 0) 256 (and_right (port_holds l p) (ltb (get_or l (152 + p) 0) 256) e)

  pub state_byte : get_or l (8 + p) 0 ≡ code_of (state_of (get_or l (8 + p) 0))
  state_byte = sym (code_again (get_or l (8 + p) 0) state_small)

  pub latch_byte_lem : get_or l (200 + p) 0 ≡ latch_byte (latches_of (get_or l (200 + p) 0))
  latch_byte_lem = sym (latches_again (get_or l (200 + p) 0) latches_small)

module _ (l : List ℕ) (e : imageable l ≡ true) where
  pub saved_long : length l ≡ cells_long
  unfolding imageable
  saved_long = eqb-true (length l) cells_long (and_left (eqb (length l) cells_long) (every most_ports (port_saves l)) e)

  pub saved_port : (p : ℕ) → p < most_ports → port_saves l p ≡ true
  unfolding imageable
  saved_port = every_at most_ports (port_saves l) (and_right (eqb (length l) cells_long) (every most_ports (port_saves l)) e)
