-- The marks of every port: what each has shown since it last stood in IDLE.
use Rattle.std.specs.Prelude.{ℕ, ◌+◌, Bool, List, [], ◌∷◌, get_or, replicate}
use Rattle.lists.specs.Places.{tabulate}
use Rattle.statements.specs.History.{Call, control, status, requested, ticked}
use Rattle.marks.specs.Mark.{noted_mark}
use Rattle.history.specs.Lent.{ran_on, cells_reached}

-- after a call
unfoldable pub noted_all : List ℕ → Bool → List ℕ → List ℕ → List ℕ
noted_all l ran block marks = tabulate 48 (λ p. noted_mark (get_or l (8 + p) 0) ran block p (get_or marks p 0))

-- the bytes that a call brings
abbrev pub block_of : Call → List ℕ
block_of (control p w) = []
block_of (status p) = []
block_of (requested p v) = []
block_of (ticked block figure) = block

-- the marks that a history leaves; the latest call stands first
unfoldable pub marks_reached : ℕ → List Call → List ℕ
marks_reached n [] = replicate 48 1
marks_reached n (c ∷ h) = noted_all (cells_reached n (c ∷ h)) (ran_on (cells_reached n h) c) (block_of c) (marks_reached n h)
