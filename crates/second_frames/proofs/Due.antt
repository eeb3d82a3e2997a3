-- What is due of the core where document 01 refuses nothing.
-- Assumes nothing.
use Prim.Native.Nat.{ℕ, ◌≤◌}
use mathlib.Core.Path.{◌≡◌, refl}
use mathlib.Core.Bool.{Bool, true, false, cond}
use mathlib.Core.List.{List, [], ◌∷◌}
use native.Mathlib.Omega.{arith}
use lib.ListN.{length}
use Rattle.std.specs.Prelude.{Ok}
use Rattle.lists.specs.Ladder.{ladder}
use Rattle.sizes.specs.Refused.{refused}
use Rattle.fields.specs.declared.Fields.{Fields}
use Rattle.reader.specs.Read.{fields_in, read_refusals, read_of}
use Rattle.writer.specs.Write.{bytes_of, write_refusals, written_of}
use Rattle.interface.specs.Statement1C.{first_number}

-- no refusal is numbered 0
abbrev Numbered : List (ℕ × Bool) → Type 0
Numbered [] = Unit {0}
Numbered (r ∷ rs) = (1 ≤ r.0) × Numbered rs

none_due : {X : Type 0} (refuse : ℕ → X) (value : X) (rs : List (ℕ × Bool)) → Numbered rs → first_number rs ≡ 0 → ladder rs refuse value ≡ value
none_due refuse value [] some e = refl
none_due refuse value (r ∷ rs) some e = go r.1 (none_due refuse value rs some.1) e
  where
    go : (b : Bool) → (first_number rs ≡ 0 → ladder rs refuse value ≡ value) → cond b r.0 (first_number rs) ≡ 0 → cond b (refuse r.0) (ladder rs refuse value) ≡ value
    go true rest e = absurd (omega (arith, some.0))
    go false rest e = rest e

pub due_written : (f : Fields) (room : List ℕ) → first_number (write_refusals f room) ≡ 0 → written_of f room ≡ Ok (length (bytes_of f))
unfolding written_of
due_written f room e = none_due refused (Ok (length (bytes_of f))) (write_refusals f room) (omega arith, (omega arith, (omega arith, tt))) e

pub due_read : (bytes : List ℕ) → first_number (read_refusals bytes) ≡ 0 → read_of bytes ≡ Ok (fields_in bytes)
unfolding read_of
due_read bytes e = none_due refused (Ok (fields_in bytes)) (read_refusals bytes) (omega arith, (omega arith, (omega arith, tt))) e
