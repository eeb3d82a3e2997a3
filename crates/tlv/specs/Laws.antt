-- What holds of the reader, the writer and the search together, over both forms of the power TLV. Proved in proofs/WrittenReads, ReadRewrites and Boundary.
use Rattle.std.specs.Prelude.{◌≡◌, Bool, true, List, ◌++◌, ℕ, ◌+◌, ◌≤◌, ltb, length, get_or, take, drop, Ok}
use Rattle.sizes.specs.Sizes.{most_value}
use Rattle.lists.specs.Bits.{field}
use Rattle.lists.specs.Entries.{all}
use Rattle.header.specs.Header.{size_at, is_power}
use Rattle.reader.specs.Read.{read_of}
use Rattle.search.specs.Search.{search_of}
use Rattle.walk.specs.Walk.{step_of}
use Rattle.writer.specs.Write.{written_of, room_after}
use Rattle.fields.specs.declared.Fields.{Fields}
use Rattle.fields.specs.declared.Form.TheVariants.{Long}
use Rattle.fields.specs.declared.Added.{Added}
use Rattle.walk.specs.declared.Step.TheVariants.{Tlv}
use Rattle.search.specs.declared.Found.{Found}

-- "Whatever is written reads back as written"
abbrev pub WrittenReads : Type 0
WrittenReads = (f : Fields) (room : List ℕ) (n : ℕ) → written_of f room ≡ Ok n → read_of (take n (room_after f room)) ≡ Ok f

-- request [4] of document 02, "0 through 999": each such value is written, beside any octets and codes, and reads back
abbrev pub EveryValue : Type 0
EveryValue =
    (f : Fields) (a : Added) → f.form ≡ Long a → a.kind ≤ 3 → a.source ≤ 3 → a.priority ≤ 3 → a.requested ≤ most_value → a.allocated ≤ most_value
    → (room : List ℕ) → 14 ≤ length room → (written_of f room ≡ Ok 14) × (read_of (take 14 (room_after f room)) ≡ Ok f)

abbrev pub is_byte : ℕ → Bool
is_byte x = ltb x 256

-- "bytes that read, with 3:2 zero, are rewritten the same": in any room that is long enough, whose other bytes stay
abbrev pub ReadRewrites : Type 0
ReadRewrites =
    (bytes : List ℕ) → all is_byte bytes ≡ true → (f : Fields) → read_of bytes ≡ Ok f → field 2 2 (get_or bytes 9 0) ≡ 0
    → (room : List ℕ) → length bytes ≤ length room → (Ok (length bytes) ≡ written_of f room) × (bytes ++ drop (length bytes) room ≡ room_after f room)

-- a boundary of the walk: the start of the bytes, or the end of a whole TLV that starts at a boundary
pub data Boundary (bytes : List ℕ) : ℕ → Type 0 where
  start : Boundary bytes 0
  next : (at size : ℕ) → Boundary bytes at → step_of bytes at ≡ Tlv size → Boundary bytes (at + size)

-- a whole power TLV of so many bytes, at a boundary
pub record PowerAt (bytes : List ℕ) (at size : ℕ) : Type 0 where
  pub boundary : Boundary bytes at
  pub whole : step_of bytes at ≡ Tlv size
  pub power : is_power bytes at ≡ true

-- one whole power TLV, and no byte more
pub record OnePower (bytes : List ℕ) : Type 0 where
  pub whole : length bytes ≡ size_at bytes 0
  pub power : is_power bytes 0 ≡ true

-- "hands back the part that is the power TLV"
abbrev pub FoundPower : Type 0
FoundPower = (bytes : List ℕ) (found : Found) → search_of bytes ≡ Ok found → PowerAt bytes found.start found.size × OnePower (take found.size (drop found.start bytes))

-- what the reader takes, from the search or from elsewhere
abbrev pub TakenPower : Type 0
TakenPower = (bytes : List ℕ) (f : Fields) → read_of bytes ≡ Ok f → OnePower bytes
