-- The cells that the bytes of an image are put into, port by port.
-- Assumes nothing.
use mathlib.Core.Path.{◌≡◌, refl, sym, ◌∙◌, ap}
use mathlib.Core.Bool.{true}
use mathlib.Core.List.{List}
use Prim.Native.Nat.{ℕ, ◌+◌, ◌*◌, ◌≤◌, ◌<◌}
use native.Mathlib.Nat.{le_refl}
use native.Mathlib.Omega.{arith}
use lib.ListN.{length, get_or, set, replicate, length-set, length-replicate, get_or-replicate}
use lib.Seq.{get_or-set_other}
use borrow.Author.Tests.{leb-true}
use Rattle.lists.specs.Bytes.{word_at}
use Rattle.sizes.specs.Sizes.{most_ports}
use Rattle.image.specs.Image.{image_port}
use Rattle.lists.proofs.Places.{get_d_tabulate}
use Rattle.port.specs.States.{code_of}
use Rattle.port.specs.declared.form.Port.{Port}
use Rattle.table.specs.Parts.{no_port, port_at}
use Rattle.cells.specs.Cells.{port_of, port_holds, written, cells_of, cells_long}
use Rattle.cells.proofs.CodeLaws.{code_again}
use Rattle.cells.specs.Codes.{state_of}
use Rattle.cells.proofs.Laws.{written_self, written_cong}
use Rattle.cells.proofs.Pass.{stage, pass_none, pass_more, pass_all}
use Rattle.cells.specs.Writes.{with_port_cells}
use Rattle.image.specs.Load.{port_in, port_reads, table_in}

pub state_code : (bytes : List ℕ) (at : ℕ) → port_reads bytes at ≡ true → code_of (state_of (get_or bytes at 0)) ≡ get_or bytes at 0
unfolding port_reads
state_code bytes at e = code_again (get_or bytes at 0) (leb-true (get_or bytes at 0) 9 e)

-- cells with the head of an image's table, and nothing else
abbrev pub bare : List ℕ → List ℕ
bare bytes = set (set (replicate cells_long 0) 0 (word_at bytes 0)) 1 (word_at bytes 4)

-- the port at a place of an image
abbrev pub port_for : List ℕ → ℕ → Port
port_for bytes p = port_in bytes (6 + image_port * p)

-- the ports below i are the image's
abbrev pub Put : List ℕ → ℕ → List ℕ → Type 0
Put bytes i l = l ≡ written most_ports (stage i (port_for bytes) (port_of (bare bytes))) (bare bytes)

module _ (bytes : List ℕ) where
  bare_long : length (bare bytes) ≡ cells_long
  bare_long =
      length-set (set (replicate cells_long 0) 0 (word_at bytes 0)) 1 (word_at bytes 4)
      ∙ length-set (replicate cells_long 0) 0 (word_at bytes 0)
      ∙ length-replicate {A = ℕ} cells_long 0

  bare_cell : (k : ℕ) → 8 ≤ k → k < cells_long → get_or (bare bytes) k 0 ≡ 0
  bare_cell k h b =
      get_or-set_other (set (replicate cells_long 0) 0 (word_at bytes 0)) 1 k (word_at bytes 4) 0 (λ e. omega arith)
      ∙ get_or-set_other (replicate cells_long 0) 0 k (word_at bytes 0) 0 (λ e. omega arith)
      ∙ get_or-replicate {A = ℕ} cells_long k 0 0 b

  bare_holds : (p : ℕ) → p < most_ports → port_holds (bare bytes) p ≡ true
  unfolding port_holds
  bare_holds p h = simp (bare_cell (8 + p) (omega arith) (omega arith), bare_cell (200 + p) (omega arith) (omega arith))

  long : 584 ≤ length (bare bytes)
  long = omega (arith, bare_long)

  pub put_none : Put bytes 0 (bare bytes)
  put_none = pass_none most_ports (port_for bytes) (port_of (bare bytes)) (bare bytes) (le_refl most_ports) long (written_self most_ports (bare bytes) (le_refl most_ports) long bare_holds)

  pub put_more : (i : ℕ) (l : List ℕ) → Put bytes i l → i < most_ports → Put bytes (i + 1) (with_port_cells i (port_for bytes i) l)
  put_more i l e h = pass_more most_ports (port_for bytes) (port_of (bare bytes)) (bare bytes) (le_refl most_ports) long i l e h (port_for bytes i) refl

  pub put_all : (l : List ℕ) → Put bytes most_ports l → l ≡ cells_of (table_in bytes)
  unfolding cells_of table_in port_at
  put_all l e =
      pass_all most_ports (port_for bytes) (port_of (bare bytes)) (bare bytes) (le_refl most_ports) long l e
      ∙ written_cong most_ports (port_for bytes) (port_at (table_in bytes)) (bare bytes) (le_refl most_ports) long (λ p h. sym (get_d_tabulate most_ports (port_for bytes) no_port p h))
