-- The table that an image is, and which bytes are one.
use Rattle.std.specs.Prelude.{ℕ, ◌+◌, ◌*◌, Bool, cond, ◌&&◌, List, leb, eqb, length, get_or, Result, Ok}
use Rattle.lists.specs.Bytes.{word_at}
use Rattle.sizes.specs.Refused.{refused}
use Rattle.sizes.specs.Sizes.{most_ports}
use Rattle.sizes.specs.declared.refusals.Refusal.{Refusal}
use Rattle.image.specs.Image.{image_long, image_port}
use Rattle.lists.specs.Every.{every}
use Rattle.lists.specs.Places.{tabulate}
use Rattle.power.specs.Power.{tenths}
use Rattle.port.specs.declared.form.Counts.{Counts}
use Rattle.port.specs.declared.form.Port.{Port}
use Rattle.table.specs.declared.form.Table.{Table}
use Rattle.cells.specs.Cells.{cells_long, cells_of}
use Rattle.cells.specs.Codes.{state_of, latches_of}

unfoldable pub counts_in : List ℕ → ℕ → Counts
counts_in bytes at =
    record {
      detection = word_at bytes at;
      backoff = word_at bytes (at + 2);
      error_delay = word_at bytes (at + 4);
      power_on = word_at bytes (at + 6);
      limiting = word_at bytes (at + 8);
      overload = word_at bytes (at + 10);
      no_load = word_at bytes (at + 12);
    }

-- the port whose 21 bytes begin at a place
unfoldable pub port_in : List ℕ → ℕ → Port
port_in bytes at =
    record {
      state = state_of (get_or bytes at 0);
      class = get_or bytes (at + 3) 0;
      control = word_at bytes (at + 1);
      demand = tenths (word_at bytes (at + 4));
      latches = latches_of (get_or bytes (at + 6) 0);
      counts = counts_in bytes (at + 7);
    }

unfoldable pub table_in : List ℕ → Table
table_in bytes = record { ports = tabulate most_ports (λ p. port_in bytes (6 + image_port * p)); count = word_at bytes 0; supply = tenths (word_at bytes 4) }

-- no state over 9; each of the eight bits of a latch byte is a latch
unfoldable pub port_reads : List ℕ → ℕ → Bool
port_reads bytes at = leb (get_or bytes at 0) 9

-- an image: 1,014 bytes, a supply that fits the table's type, and every port reads
unfoldable pub reads : List ℕ → Bool
reads bytes = eqb (length bytes) image_long && (eqb (word_at bytes 2) 0 && every most_ports (λ p. port_reads bytes (6 + image_port * p)))

-- bytes are restored if they are an image and the cells are as many as a table's, whatever these hold
unfoldable pub restores : List ℕ → List ℕ → Bool
restores bytes l = reads bytes && eqb (length l) cells_long

-- include/ipaqsuni.h: "Refused: 13 for bytes that are no image (..) and for another number of cells than IPAQSUNI_CELLS."
unfoldable pub restore : List ℕ → List ℕ → Result Unit Refusal
restore bytes l = cond (restores bytes l) (Ok tt) (refused 13)

-- the cells afterwards: the image's table, and 0 in every cell that is nobody's; if nothing is restored, as they were
unfoldable pub cells_restored : List ℕ → List ℕ → List ℕ
cells_restored bytes l = cond (restores bytes l) (cells_of (table_in bytes)) l
