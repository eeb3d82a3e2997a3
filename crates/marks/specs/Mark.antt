-- What a port has shown since it last stood in IDLE, as the program marks it: 0 it stands in IDLE, 1 nothing, 2 a valid signature, 3 that
-- and later a class.
-- Assumes nothing.
use Rattle.std.specs.Prelude.{ℕ, ◌*◌, ◌<◌, Bool, true, false, cond, ◌&&◌, List, eqb}
use Rattle.sample.specs.Sample.{sample_at}
use Rattle.statements.specs.History.{shows_signature, gives_class, Shown, nothing, signature, both}

-- four numbers of 16 bits
pub record Words (a b c d : ℕ) : Type 0 where
  pub first : a < 65536
  pub second : b < 65536
  pub third : c < 65536
  pub fourth : d < 65536

-- what a tick's bytes add to a port's mark: a signature, and in a later tick a class
unfoldable pub seen_mark : List ℕ → ℕ → ℕ → ℕ
seen_mark block p m =
    cond (eqb m 1 && shows_signature (sample_at block (14 * p))) 2
    (cond (eqb m 2 && gives_class (sample_at block (14 * p))) 3
    m)

-- a port's mark after a call that leaves it in a state of this code; the code of IDLE is 1
unfoldable pub noted_mark : ℕ → Bool → List ℕ → ℕ → ℕ → ℕ
noted_mark code ran block p m = cond (eqb code 1) 0 (cond (eqb m 0) 1 (cond ran (seen_mark block p m) m))

-- the mark that statement 3 means, by whether the port stands in IDLE and by what it has shown
abbrev pub mark_of : Bool → Shown → ℕ
mark_of true x = 0
mark_of false nothing = 1
mark_of false signature = 2
mark_of false both = 3
