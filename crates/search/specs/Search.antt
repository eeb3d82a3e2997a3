-- Document 01, "The power TLV": what the search answers.
use Rattle.std.specs.Prelude.{ℕ, Bool, true, false, cond, List, [], ◌∷◌, eqb, ltb, length, get_or, Result, Ok}
use Rattle.lists.specs.Ladder.{ladder}
use Rattle.header.specs.Header.{size_at, is_power}
use Rattle.walk.specs.Walk.{Walk, ended, cut, tlv, walk_from}
use Rattle.search.specs.declared.Found.{Found}
use Rattle.sizes.specs.declared.refusals.Refusal.{Refusal}
use Rattle.sizes.specs.Refused.{refused}

-- refusal 6, "a TLV runs past the end of the bytes", wherever in the walk it stands
unfoldable pub is_cut : Walk → Bool
is_cut ended = false
is_cut cut = true
is_cut (tlv at rest) = is_cut rest

-- where the power TLVs of a walk start
unfoldable pub powers : List ℕ → Walk → List ℕ
powers bytes ended = []
powers bytes cut = []
powers bytes (tlv at rest) = cond (is_power bytes at) (at ∷ powers bytes rest) (powers bytes rest)

-- the power TLVs of the PDU
abbrev pub powers_in : List ℕ → List ℕ
powers_in bytes = powers bytes (walk_from bytes 0)

-- "PDU search: 1, 6, 8, 7."; refusal 1, "a PDU is over 1,500 bytes"; 8, "more than one power TLV in the PDU"; 7, "no power TLV in the PDU"
abbrev pub search_refusals : List ℕ → List (ℕ × Bool)
search_refusals bytes =
    (1, ltb 1500 (length bytes))
    ∷ (6, is_cut (walk_from bytes 0))
    ∷ (8, ltb 1 (length (powers_in bytes)))
    ∷ (7, eqb (length (powers_in bytes)) 0)
    ∷ []

-- the part that starts at a boundary
abbrev pub part_at : List ℕ → ℕ → Result Found Refusal
part_at bytes at = Ok (record { start = at; size = size_at bytes at })

-- "hands back the part that is the power TLV": there is one
unfoldable pub search_of : List ℕ → Result Found Refusal
search_of bytes = ladder (search_refusals bytes) refused (part_at bytes (get_or (powers_in bytes) 0 0))
