-- Document 01, "Sixteen cases to set in a table": the rows, as that paragraph has them, and one statement over them all.
-- It is of the definitions themselves, so that a definition that is wrong at a row is refused, whatever the code does.
-- Assumes nothing.
use Rattle.std.specs.Prelude.{true, false, List, [], ◌∷◌, Some, None}
use Rattle.sizes.specs.Refused.{refused}
use Rattle.signature.specs.declared.Signature.TheVariants.{Valid, Invalid, Open}
use Rattle.statements.specs.Rows.{Row, differences, class, sharing, pdu, shows, is_class_row, stay, searched}

unfoldable pub cases : List Row
cases =
    (differences 1900 100, shows Valid)
    ∷ (differences 1899 100, shows Invalid)
    ∷ (differences 2650 100, shows Valid)
    ∷ (differences 2651 100, shows Invalid)
    ∷ (differences 4999 10, shows Invalid)
    ∷ (differences 5000 10, shows Open)
    ∷ (differences 5000 0, shows Open)
    ∷ (differences 999 40, shows Invalid)
    ∷ (class 5000, is_class_row (Some 0))
    ∷ (class 5001, is_class_row (Some 1))
    ∷ (class 45000, is_class_row (Some 4))
    ∷ (class 45001, is_class_row None)
    ∷ (sharing 300, stay (true ∷ false ∷ false ∷ []))
    ∷ (sharing 348, stay (true ∷ true ∷ true ∷ []))
    ∷ (sharing 0, stay (false ∷ false ∷ false ∷ []))
    ∷ (pdu [], searched (refused 7))
    ∷ []
