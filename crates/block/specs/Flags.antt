-- The flags of a sample block, as a tick reads them into a lane of 48 numbers.
-- Assumes nothing.
use Rattle.std.specs.Prelude.{ℕ, zero, suc, ◌+◌, ◌*◌, Bool, cond, not, ◌&&◌, List, ltb, leb, eqb, length, get_or, set}
use Rattle.sizes.specs.Sizes.{most_ports, sample_bytes}
use Rattle.lists.specs.Every.{every}
use Rattle.lists.specs.Places.{tabulate}
use Rattle.sample.specs.Sample.{sample_at, reserved_flags}

-- a port's flags in the block: "14 bytes a port, in port order"
unfoldable pub flags_of_port : List ℕ → ℕ → ℕ
flags_of_port block p = (sample_at block (sample_bytes * p)).flags

-- no sample of the first n has reserved flags
unfoldable pub flags_fine : ℕ → List ℕ → Bool
flags_fine n block = every n (λ p. not (reserved_flags (flags_of_port block p)))

-- a lane with the flags of the first n ports
unfoldable pub flag_lane : ℕ → List ℕ → List ℕ → List ℕ
flag_lane n block lane = tabulate most_ports (λ p. cond (ltb p n) (flags_of_port block p) (get_or lane p 0))

-- the block is as long as n ports make it, and the lane has a place for each
unfoldable pub flags_fit : ℕ → List ℕ → List ℕ → Bool
flags_fit n block lane = leb n most_ports && (eqb (length block) (sample_bytes * n) && eqb (length lane) most_ports)

unfoldable pub flags_clean : ℕ → List ℕ → List ℕ → Bool
flags_clean n block lane = flags_fit n block lane && flags_fine n block

-- what does not fit is not read
unfoldable pub flags_laid : ℕ → List ℕ → List ℕ → List ℕ
flags_laid n block lane = cond (flags_fit n block lane) (flag_lane n block lane) lane

-- ---- some ports at a time

-- a word of flags below 64 has no reserved bit set
abbrev pub low : List ℕ → ℕ → Bool
low block p = ltb (flags_of_port block p) 64

-- so many ports from one on, each tested and laid
unfoldable pub some_fine : List ℕ → ℕ → ℕ → Bool
some_fine block from many = every many (λ k. low block (from + k))

unfoldable pub some_laid : List ℕ → ℕ → ℕ → List ℕ → List ℕ
some_laid block from zero lane = lane
some_laid block from (suc many) lane = set (some_laid block from many lane) (from + many) (flags_of_port block (from + many))
