-- The nine numbers of a TLV's fields: what fits.
-- Assumes nothing.
use Rattle.std.specs.Prelude.{ℕ, ◌≡◌, ◌<◌, Bool, true, false, cond, ◌||◌, List, eqb, Ok}
use mathlib.Core.Path.{refl}
use native.Mathlib.Omega.{arith}
use Rattle.lists.specs.Bits.{field}
use Rattle.lists.proofs.Ladder.{ladder_value}
use Rattle.fields.specs.Fields.{too_high, bad_values}
use Rattle.fields.proofs.Values.{in_range}
use Rattle.fields.specs.declared.Fields.{Fields}
use Rattle.fields.specs.declared.Form.TheVariants.{Short, Long}
use Rattle.header.specs.Header.{length_at}
use Rattle.sizes.specs.Refused.{refused}
use Rattle.reader.specs.Read.{added_in, form_in, fields_in, read_refusals, read_of}
use Rattle.ipaqsuni.specs.Tlv.{Narrow}

neither : (a b : Bool) → (a || b) ≡ false → (a ≡ false) × (b ≡ false)
neither true b e = let z : ◌≡◌ {A = ℕ} 0 1 = cc in absurd (omega arith)
neither false b e = (refl, e)

narrow_form : (bytes : List ℕ) (short : Bool) → bad_values (cond short Short (Long (added_in bytes))) ≡ false → Narrow (cond short Short (Long (added_in bytes)))
unfolding bad_values added_in field
narrow_form bytes true e = tt
narrow_form bytes false e =
    let h = neither (too_high (added_in bytes).requested) _ e in
    (omega arith, omega arith, omega arith, omega (arith, in_range _ h.0), omega (arith, in_range _ h.1))

-- what the reader takes fits 32 bits
pub narrow : (bytes : List ℕ) (f : Fields) → read_of bytes ≡ Ok f → Narrow f.form
unfolding read_of form_in fields_in
narrow bytes f e =
    let h = ladder_value refused (Ok (fields_in bytes)) (Ok f) (λ k q. cc) (read_refusals bytes) e in
    let same : f ≡ fields_in bytes = cc in
    rw same (narrow_form bytes (eqb (length_at bytes 0) 7) h.0.1.1.0)
