-- Rows at the limits of the words: control words and status words. Proved in proofs/Limits.
-- Assumes nothing.
use Rattle.std.specs.Prelude.{Bool, true, false, List, [], ◌∷◌}
use Rattle.control.specs.declared.Enable.TheVariants.{Disabled, Enabled, Forced, Reserved}
use Rattle.control.specs.declared.Pair.TheVariants.{Neither, A, B, Both}
use Rattle.control.specs.declared.Priority.TheVariants.{Unknown, Critical, High, Low}
use Rattle.status.specs.declared.Latches.{Latches}
use Rattle.status.specs.declared.Condition.TheVariants.{Disabled as Off, Searching, Delivering, Testing, Faulty}
use Rattle.statements.specs.Rows.{Row, refusal_3, fields, status, control, word, test}

-- each control word that a write takes, each reserved code, and each reserved bit; the four codes of each field
unfoldable pub controls : List Row
controls =
    (refusal_3 4, test false)
    ∷ (refusal_3 5, test false)
    ∷ (refusal_3 6, test false)
    ∷ (refusal_3 8, test false)
    ∷ (refusal_3 9, test false)
    ∷ (refusal_3 10, test false)
    ∷ (refusal_3 20, test false)
    ∷ (refusal_3 21, test false)
    ∷ (refusal_3 22, test false)
    ∷ (refusal_3 24, test false)
    ∷ (refusal_3 25, test false)
    ∷ (refusal_3 26, test false)
    ∷ (refusal_3 36, test false)
    ∷ (refusal_3 37, test false)
    ∷ (refusal_3 38, test false)
    ∷ (refusal_3 40, test false)
    ∷ (refusal_3 41, test false)
    ∷ (refusal_3 42, test false)
    ∷ (refusal_3 52, test false)
    ∷ (refusal_3 53, test false)
    ∷ (refusal_3 54, test false)
    ∷ (refusal_3 56, test false)
    ∷ (refusal_3 57, test false)
    ∷ (refusal_3 58, test false)
    ∷ (refusal_3 7, test true)
    ∷ (refusal_3 11, test true)
    ∷ (refusal_3 3, test true)
    ∷ (refusal_3 15, test true)
    ∷ (refusal_3 23, test true)
    ∷ (refusal_3 27, test true)
    ∷ (refusal_3 0, test true)
    ∷ (refusal_3 1, test true)
    ∷ (refusal_3 2, test true)
    ∷ (refusal_3 12, test true)
    ∷ (refusal_3 13, test true)
    ∷ (refusal_3 14, test true)
    ∷ (refusal_3 16, test true)
    ∷ (refusal_3 28, test true)
    ∷ (refusal_3 68, test true)
    ∷ (refusal_3 132, test true)
    ∷ (refusal_3 260, test true)
    ∷ (refusal_3 516, test true)
    ∷ (refusal_3 1028, test true)
    ∷ (refusal_3 2052, test true)
    ∷ (refusal_3 4100, test true)
    ∷ (refusal_3 8196, test true)
    ∷ (refusal_3 16388, test true)
    ∷ (refusal_3 32772, test true)
    ∷ (refusal_3 65540, test true)
    ∷ (refusal_3 9223372036854775812, test true)
    ∷ (fields 4, control (record { enable = Disabled; pair = A; priority = Unknown }))
    ∷ (fields 25, control (record { enable = Enabled; pair = B; priority = Critical }))
    ∷ (fields 46, control (record { enable = Forced; pair = Both; priority = High }))
    ∷ (fields 51, control (record { enable = Reserved; pair = Neither; priority = Low }))
    ∷ []

-- the latches in the order of their bits, 14 to 7
abbrev lit : Bool → Bool → Bool → Bool → Bool → Bool → Bool → Bool → Latches
lit a b c d e f g h = record { disagree = a; over_current = b; denied = c; valid = d; invalid = e; short = f; overload = g; absent = h }

-- each latch, each condition and each class of a status word
unfoldable pub statuses : List Row
statuses =
    (status (lit true false false false false false false false) 0 Off, word 16385)
    ∷ (status (lit false true false false false false false false) 0 Off, word 8193)
    ∷ (status (lit false false true false false false false false) 0 Off, word 4097)
    ∷ (status (lit false false false true false false false false) 0 Off, word 2049)
    ∷ (status (lit false false false false true false false false) 0 Off, word 1025)
    ∷ (status (lit false false false false false true false false) 0 Off, word 513)
    ∷ (status (lit false false false false false false true false) 0 Off, word 257)
    ∷ (status (lit false false false false false false false true) 0 Off, word 129)
    ∷ (status (lit false false false false false false false false) 0 Off, word 1)
    ∷ (status (lit false false false false false false false false) 0 Searching, word 3)
    ∷ (status (lit false false false false false false false false) 0 Delivering, word 5)
    ∷ (status (lit false false false false false false false false) 0 Testing, word 7)
    ∷ (status (lit false false false false false false false false) 0 Faulty, word 9)
    ∷ (status (lit false false false false false false false false) 0 Off, word 1)
    ∷ (status (lit false false false false false false false false) 1 Off, word 17)
    ∷ (status (lit false false false false false false false false) 2 Off, word 33)
    ∷ (status (lit false false false false false false false false) 3 Off, word 49)
    ∷ (status (lit false false false false false false false false) 4 Off, word 65)
    ∷ (status (lit true true false false false false false false) 0 Off, word 24577)
    ∷ (status (lit true true true true true true true true) 4 Faulty, word 32713)
    ∷ []
