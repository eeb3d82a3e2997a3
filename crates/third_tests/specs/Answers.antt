-- What is looked at after a tick: its number and masks, the cells that it left, and the marks.
-- Assumes nothing.
use Rattle.std.specs.Prelude.{ℕ, ◌+◌, Bool, cond, not, ◌&&◌, ◌||◌, List, eqb, leb, get_or}
use Rattle.lists.specs.Bits.{bit}
use Rattle.lists.specs.Every.{every}
use Rattle.lists.specs.Total.{total}
use Rattle.history.specs.declared.TickAnswer.{TickAnswer}

-- the place's bit is set in one of the two masks
abbrev pub closed_in : TickAnswer → ℕ → Bool
closed_in x p = bit p x.a || bit p x.b

-- "Every port closed under the smaller figure is closed under the greater."
unfoldable pub none_lost_in : TickAnswer → TickAnswer → Bool
none_lost_in x y = every 48 (λ p. not (closed_in x p) || closed_in y p)

-- "the closed ports' demands", from their cells
unfoldable pub demands_in : List ℕ → TickAnswer → ℕ
demands_in l x = total 48 (λ p. cond (closed_in x p) (get_or l (104 + p) 0) 0)

-- "no port outside the forced test state is closed unless, since it last stood in IDLE, it showed a valid signature and gave a class"
unfoldable pub all_shown_in : List ℕ → List ℕ → TickAnswer → Bool
all_shown_in l marks x = every 48 (λ p. (not (closed_in x p) || eqb (get_or l (8 + p) 0) 8) || eqb (get_or marks p 0) 3)

-- all that is asked of one tick: "let the tick be accepted", which its number says
unfoldable pub sound_in : List ℕ → List ℕ → TickAnswer → ℕ → Bool
sound_in l marks x figure = (eqb x.number 0 && leb (demands_in l x) figure) && all_shown_in l marks x
