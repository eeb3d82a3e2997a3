use Rattle.std.proofs.Common.{ℕ, ◌+◌, get_or}
use Rattle.lists.specs.Places.{Filled}
use Rattle.marks.specs.Mark.{noted_mark}
use Rattle.history.proofs.shown.note.Given as goal

-- the marks of the ports so far are made anew
abbrev pub invariant-loop-p : goal.invariant-loop-p
invariant-loop-p l = Filled 0 (λ (q : ℕ). noted_mark (get_or l.cells (8 + q) 0) l.ticked l.block q (get_or l.initial.shown q 0)) l.initial.shown l.p l.shown
