-- Document 01, "Samples": the fourteen bytes of a port and the flags.
use Rattle.std.specs.Prelude.{ℕ, ◌+◌, ◌*◌, ◌/◌, Bool, cond, List, ltb, length, Option, Some, None}
use Rattle.lists.specs.Bytes.{word_at}
use Rattle.sizes.specs.Sizes.{sample_bytes}
use Rattle.lists.specs.Bits.{bit, above}
use Rattle.sample.specs.declared.Sample.{Sample}
use Rattle.sample.specs.declared.Flags.{Flags}

-- "V1, V2 (mV), I1, I2 (µA), C1, C2 (class currents, µA), flags."
unfoldable pub sample_at : List ℕ → ℕ → Sample
sample_at bytes at =
    record {
      v1 = word_at bytes at;
      v2 = word_at bytes (at + 2);
      i1 = word_at bytes (at + 4);
      i2 = word_at bytes (at + 6);
      c1 = word_at bytes (at + 8);
      c2 = word_at bytes (at + 10);
      flags = word_at bytes (at + 12);
    }

-- "14 bytes a port, in port order": the sample of a port whose fourteen bytes the block has
unfoldable pub sample_of : List ℕ → ℕ → Option Sample
sample_of block port = cond (ltb port (length block / sample_bytes)) (Some (sample_at block (sample_bytes * port))) None

-- "15:6 zero" is broken
unfoldable pub reserved_flags : ℕ → Bool
reserved_flags flags = above 6 flags

-- "0 detection done, 1 class done, 2 settled, 3 limiting, 4 overload, 5 load present"
unfoldable pub flags_of : ℕ → Flags
flags_of flags =
    record {
      detection_done = bit 0 flags;
      class_done = bit 1 flags;
      settled = bit 2 flags;
      limiting = bit 3 flags;
      overload = bit 4 flags;
      load = bit 5 flags;
    }
