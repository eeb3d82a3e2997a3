-- Document 01, "The power TLV": the walk over a PDU's TLVs.
use Rattle.std.specs.Prelude.{ℕ, zero, suc, ◌+◌, ◌-◌, cond, List, eqb, leb, ltb, length}
use Rattle.header.specs.Header.{type_at, size_at}
use Rattle.walk.specs.declared.Step.{Step}
use Rattle.walk.specs.declared.Step.TheVariants.{End, Cut, Tlv}

-- what stands at a boundary: "It ends at a type 0 header, whatever its length, or where the bytes end on a boundary."; "A lone last
-- byte is cut (6)."; refusal 6, "a TLV runs past the end of the bytes"
unfoldable pub step_of : List ℕ → ℕ → Step
step_of bytes at =
    cond (leb (length bytes) at) End
    (cond (ltb (length bytes - at) 2) Cut
    (cond (eqb (type_at bytes at) 0) End
    (cond (ltb (length bytes - at) (size_at bytes at)) Cut
    (Tlv (size_at bytes at)))))

-- the TLVs of a walk, each by the boundary where it starts, and how the walk ends
pub data Walk : Type 0 where
  ended : Walk
  cut : Walk
  tlv : ℕ → Walk → Walk

-- the walk after the step at a boundary
abbrev pub onward : Step → ℕ → (ℕ → Walk) → Walk
onward End at rest = ended
onward Cut at rest = cut
onward (Tlv size) at rest = tlv at (rest (at + size))

-- "The search walks the PDU one TLV at a time": at most so many TLVs from a boundary on
unfoldable pub walk : ℕ → List ℕ → ℕ → Walk
walk zero bytes at = ended
walk (suc n) bytes at = onward (step_of bytes at) at (walk n bytes)

-- no walk has more TLVs than there are bytes
unfoldable pub walk_from : List ℕ → ℕ → Walk
walk_from bytes at = walk (length bytes - at) bytes at
