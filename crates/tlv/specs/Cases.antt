-- Document 01's whole case and its empty PDU, shown of the definitions themselves.
-- Assumes nothing.
use Rattle.std.specs.Prelude.{List, [], ◌∷◌, ℕ}
use Rattle.fields.specs.declared.Fields.{Fields}
use Rattle.fields.specs.declared.Form.TheVariants.{Long}

-- "Whole case: `FE 0C 00 12 0F 02 00 01 05 52 00 FF 00 82`"
abbrev pub whole_bytes : List ℕ
whole_bytes = 0xFE ∷ 0x0C ∷ 0x00 ∷ 0x12 ∷ 0x0F ∷ 0x02 ∷ 0x00 ∷ 0x01 ∷ 0x05 ∷ 0x52 ∷ 0x00 ∷ 0xFF ∷ 0x00 ∷ 0x82 ∷ []

-- "is type 01, source 01, priority 10, requested 255, allocated 130"
abbrev pub whole_fields : Fields
whole_fields =
    record {
      support = 0x00;
      pair = 0x01;
      class = 0x05;
      form = Long (record { kind = 0b01; source = 0b01; priority = 0b10; requested = 255; allocated = 130 });
    }
