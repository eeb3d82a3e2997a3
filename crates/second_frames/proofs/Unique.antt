-- What is proved of specs/Unique.
-- Assumes nothing.
use mathlib.Core.Path.{sym, ◌∙◌}
use Rattle.second_frames.specs.Unique.{Unique}

pub unique : Unique
unique = record { second_frames_second_write = λ fields room before r s b c p q. (p.0 ∙ sym q.0, p.1 ∙ sym q.1); second_frames_second_read = λ bytes r s p q. p ∙ sym q }
