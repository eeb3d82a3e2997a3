-- The image of a table, byte by byte. docs/CONSOLE.md: "1,014 bytes, big-endian: count (2), supply (4), then 48 ports of 21 bytes".
use Rattle.std.specs.Prelude.{ℕ, ◌+◌, ◌-◌, ◌/◌, ◌%◌, Bool, cond, ◌&&◌, List, [], ◌∷◌, ◌++◌, ltb, eqb, length, get_or, Result, Ok}
use Rattle.sizes.specs.Refused.{refused}
use Rattle.sizes.specs.Sizes.{most_ports}
use Rattle.sizes.specs.declared.refusals.Refusal.{Refusal}
use Rattle.lists.specs.Every.{every}
use Rattle.lists.specs.Places.{tabulate}
use Rattle.port.specs.declared.form.Counts.{Counts}
use Rattle.port.specs.declared.form.Port.{Port}
use Rattle.port.specs.States.{code_of}
use Rattle.table.specs.Parts.{port_at}
use Rattle.table.specs.declared.form.Table.{Table}
use Rattle.cells.specs.Cells.{cells_long, port_holds, table_of}
use Rattle.cells.specs.Codes.{latch_byte}

-- two bytes, the high one first
abbrev pub word : ℕ → List ℕ
word n = n / 256 ∷ n % 256 ∷ []

-- docs/CONSOLE.md: "counters of 2 bytes: detection, backoff, error delay, power-on, limiting, overload, no load"
abbrev pub count_bytes : Counts → List ℕ
count_bytes c = word c.detection ++ word c.backoff ++ word c.error_delay ++ word c.power_on ++ word c.limiting ++ word c.overload ++ word c.no_load

-- how many bytes an image has, and a port in it
abbrev pub image_long : ℕ
image_long = 1014

abbrev pub image_port : ℕ
image_port = 21

-- a port's 21 bytes: state 1, control word 2, class 1, demand 2, latches 1, counters 14
unfoldable pub port_bytes : Port → List ℕ
port_bytes p = code_of p.state ∷ (word p.control ++ (p.class ∷ word p.demand.0) ++ (latch_byte p.latches ∷ count_bytes p.counts))

-- count 2, supply 4: a supply of the table's type has no more than its two low bytes
unfoldable pub head_bytes : Table → List ℕ
head_bytes t = word t.count ++ (0 ∷ 0 ∷ word t.supply.0)

-- what stands at a place of the image
unfoldable pub byte_at : Table → ℕ → ℕ
byte_at t k = cond (ltb k 6) (get_or (head_bytes t) k 0) (get_or (port_bytes (port_at t ((k - 6) / image_port))) ((k - 6) % image_port) 0)

-- the whole image
unfoldable pub image_of : Table → List ℕ
image_of t = tabulate image_long (byte_at t)

-- the cells of a place are a port that an image can hold: a state and latches that there are, and a class of one byte
unfoldable pub port_saves : List ℕ → ℕ → Bool
port_saves l p = port_holds l p && ltb (get_or l (152 + p) 0) 256

-- docs/CONSOLE.md: "no image holds cells of another number than 728, nor a state over 9, latches over 255 or a class over 255 at any of the 48 places"
unfoldable pub imageable : List ℕ → Bool
imageable l = eqb (length l) cells_long && every most_ports (port_saves l)

-- cells that no image holds are not saved, and a room of another length is not written
unfoldable pub saves : List ℕ → List ℕ → Bool
saves l room = imageable l && eqb (length room) image_long

-- include/ipaqsuni.h: "Refused: 13 for cells that no image holds (..), then 1 for a room of another length than IPAQSUNI_IMAGE."
unfoldable pub save : List ℕ → List ℕ → Result Unit Refusal
save l room = cond (imageable l) (cond (eqb (length room) image_long) (Ok tt) (refused 1)) (refused 13)

unfoldable pub room_after : List ℕ → List ℕ → List ℕ
room_after l room = cond (saves l room) (image_of (table_of l)) room
