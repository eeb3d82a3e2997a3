-- The numbers of document 01, and of a request of document 02, that several rules name.
-- Assumes nothing.
use Rattle.std.specs.Prelude.{ℕ}

-- "1 to 48 Type 2 ports"
abbrev pub most_ports : ℕ
most_ports = 48

-- "14 bytes a port"
abbrev pub sample_bytes : ℕ
sample_bytes = 14

-- a counter "adds one each tick but stops at 2,000"; "a counter over 2,000" is ill-made
abbrev pub most_count : ℕ
most_count = 2000

-- "supply figure over 60,000"
abbrev pub most_supply : ℕ
most_supply = 60000

-- request [4] of document 02, where document 01 has "1..255": a power value is "0 through 999"
abbrev pub most_value : ℕ
most_value = 999
