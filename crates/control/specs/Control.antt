-- Document 01, "Words on the management side": the control word.
use Rattle.std.specs.Prelude.{ℕ, ◌+◌, ◌*◌, Bool, ◌||◌, not, eqb}
use Rattle.lists.specs.Bits.{field, above, choose}
use Rattle.control.specs.declared.Enable.{Enable}
use Rattle.control.specs.declared.Enable.TheVariants.{Disabled, Enabled, Forced, Reserved}
use Rattle.control.specs.declared.Pair.{Pair}
use Rattle.control.specs.declared.Pair.TheVariants.{Neither, A, B, Both}
use Rattle.control.specs.declared.Priority.{Priority}
use Rattle.control.specs.declared.Priority.TheVariants.{Unknown, Critical, High, Low}
use Rattle.control.specs.declared.Control.{Control}

-- "00 disabled, 01 enabled, 10 force power, 11 reserved"
abbrev pub enable_code : Enable → ℕ
enable_code Disabled = 0
enable_code Enabled = 1
enable_code Forced = 2
enable_code Reserved = 3

-- "01 alternative A, 10 alternative B, others reserved here"
abbrev pub pair_code : Pair → ℕ
pair_code Neither = 0
pair_code A = 1
pair_code B = 2
pair_code Both = 3

-- "01 critical, 10 high, 11 low, 00 unknown"
abbrev pub priority_code : Priority → ℕ
priority_code Unknown = 0
priority_code Critical = 1
priority_code High = 2
priority_code Low = 3

-- "1:0 enable"
unfoldable pub enable_of : ℕ → Enable
enable_of word = choose Disabled Enabled Forced Reserved (field 0 2 word)

-- "3:2 pair control"
unfoldable pub pair_of : ℕ → Pair
pair_of word = choose Neither A B Both (field 2 2 word)

-- "5:4 priority"
unfoldable pub priority_of : ℕ → Priority
priority_of word = choose Unknown Critical High Low (field 4 2 word)

unfoldable pub control_of : ℕ → Control
control_of word = record { enable = enable_of word; pair = pair_of word; priority = priority_of word }

-- the word of three fields
unfoldable pub word_of : Control → ℕ
word_of c = enable_code c.enable + 4 * pair_code c.pair + 16 * priority_code c.priority

-- refusal 3, "reserved bits or codes in a control word": "15:6 zero" is broken, also by a number past 16 bits; enable is 11;
-- or pair control is neither 01 nor 10
unfoldable pub refused : ℕ → Bool
refused word = above 6 word || (eqb (field 0 2 word) 3 || not (eqb (field 2 2 word) 1 || eqb (field 2 2 word) 2))
