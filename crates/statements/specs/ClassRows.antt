-- Rows at the limits of the class reading, of one current and of two. Proved in proofs/Limits.
-- Assumes nothing.
use Rattle.std.specs.Prelude.{ℕ, List, [], ◌∷◌, Some, None, Result, Ok, Err}
use Rattle.class.specs.declared.ClassReading.{ClassReading}
use Rattle.class.specs.declared.Failure.{Failure}
use Rattle.class.specs.declared.Failure.TheVariants.{OverCurrent, Disagree}
use Rattle.statements.specs.Rows.{Row, class, two_currents, is_class_row, reads}

-- what two currents show, and how many of them were used
abbrev shown : Result ℕ Failure → ℕ → ClassReading
shown e n = record { shown = e; used = n }

-- each limit of the class and one past it; what a second current does, and which failure it is: request [7], "a second current above 45,000
-- after a class 4 counts as disagreeing"
unfoldable pub classes : List Row
classes =
    (class 0, is_class_row (Some 0))
    ∷ (class 5000, is_class_row (Some 0))
    ∷ (class 5001, is_class_row (Some 1))
    ∷ (class 13000, is_class_row (Some 1))
    ∷ (class 13001, is_class_row (Some 2))
    ∷ (class 21000, is_class_row (Some 2))
    ∷ (class 21001, is_class_row (Some 3))
    ∷ (class 31000, is_class_row (Some 3))
    ∷ (class 31001, is_class_row (Some 4))
    ∷ (class 45000, is_class_row (Some 4))
    ∷ (class 45001, is_class_row None)
    ∷ (class 65535, is_class_row None)
    ∷ (two_currents 31001 31001, reads (shown (Ok 4) 2))
    ∷ (two_currents 45000 45000, reads (shown (Ok 4) 2))
    ∷ (two_currents 45000 31001, reads (shown (Ok 4) 2))
    ∷ (two_currents 45000 45001, reads (shown (Err Disagree) 2))
    ∷ (two_currents 31001 45001, reads (shown (Err Disagree) 2))
    ∷ (two_currents 45000 65535, reads (shown (Err Disagree) 2))
    ∷ (two_currents 31001 31000, reads (shown (Err Disagree) 2))
    ∷ (two_currents 45000 0, reads (shown (Err Disagree) 2))
    ∷ (two_currents 31001 0, reads (shown (Err Disagree) 2))
    ∷ (two_currents 45001 45000, reads (shown (Err OverCurrent) 1))
    ∷ (two_currents 45001 45001, reads (shown (Err OverCurrent) 1))
    ∷ (two_currents 45001 31001, reads (shown (Err OverCurrent) 1))
    ∷ (two_currents 45001 0, reads (shown (Err OverCurrent) 1))
    ∷ (two_currents 65535 65535, reads (shown (Err OverCurrent) 1))
    ∷ (two_currents 31000 45000, reads (shown (Ok 3) 1))
    ∷ (two_currents 31000 45001, reads (shown (Ok 3) 1))
    ∷ (two_currents 21000 31001, reads (shown (Ok 2) 1))
    ∷ (two_currents 21000 45001, reads (shown (Ok 2) 1))
    ∷ (two_currents 13000 31001, reads (shown (Ok 1) 1))
    ∷ (two_currents 13000 45000, reads (shown (Ok 1) 1))
    ∷ (two_currents 5000 45001, reads (shown (Ok 0) 1))
    ∷ (two_currents 0 65535, reads (shown (Ok 0) 1))
    ∷ []
