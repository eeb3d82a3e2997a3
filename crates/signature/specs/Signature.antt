-- Document 01, "Samples": the signature, from two voltages and two currents.
use Rattle.std.specs.Prelude.{ℕ, Bool, false, cond, ◌||◌, ◌&&◌, ltb, ℤ, pos, ◌-ℤ◌, ◌*ℤ◌}
use Rattle.std.specs.Int.Signed.{lt_z, le_z}
use Rattle.signature.specs.declared.Signature.{Signature}
use Rattle.signature.specs.declared.Signature.TheVariants.{Valid, Invalid, Open}

-- "outside 2,800..10,000"
unfoldable pub outside : ℕ → Bool
outside v = ltb v 2800 || ltb 10000 v

-- a is at least b
abbrev pub ge_z : ℤ → ℤ → Bool
ge_z a b = le_z b a

-- "Invalid if V1 or V2 is outside 2,800..10,000 or dV < 1,000. Otherwise open if dI <= 0 or dV >= 500 dI. Otherwise valid if
-- 19 dI <= dV and 2 dV <= 53 dI; else invalid.": by whether V1 or V2 is outside, and by dV and dI
abbrev pub signature_by : Bool → ℤ → ℤ → Signature
signature_by isOutside dV dI =
    cond (isOutside || lt_z dV (pos 1000)) Invalid
    (cond (le_z dI (pos 0) || ge_z dV (pos 500 *ℤ dI)) Open
    (cond (le_z (pos 19 *ℤ dI) dV && le_z (pos 2 *ℤ dV) (pos 53 *ℤ dI)) Valid
    Invalid))

-- "dV = V2 - V1 and dI = I2 - I1 are signed."
unfoldable pub signature_of : ℕ → ℕ → ℕ → ℕ → Signature
signature_of v1 v2 i1 i2 = signature_by (outside v1 || outside v2) (pos v2 -ℤ pos v1) (pos i2 -ℤ pos i1)

-- what two differences show where neither voltage is outside
unfoldable pub by_differences : ℤ → ℤ → Signature
by_differences dV dI = signature_by false dV dI
