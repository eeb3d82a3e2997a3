-- Document 01, "Words on the management side": the status word, with the two latches of request [7].
use Rattle.std.specs.Prelude.{ℕ, ◌+◌, ◌*◌, ◌%◌, false, ◌||◌}
use Rattle.status.specs.Kinds.{bit_of, placed}
use Rattle.status.specs.declared.Latches.{Latches}
use Rattle.status.specs.declared.Condition.{Condition}
use Rattle.status.specs.declared.Condition.TheVariants.{Disabled, Searching, Delivering, Testing, Faulty}

abbrev pub no_latches : Latches
no_latches = record { disagree = false; over_current = false; denied = false; valid = false; invalid = false; short = false; overload = false; absent = false }

-- what is latched is added to what was
unfoldable pub join : Latches → Latches → Latches
join l m =
    record {
      disagree = l.disagree || m.disagree;
      over_current = l.over_current || m.over_current;
      denied = l.denied || m.denied;
      valid = l.valid || m.valid;
      invalid = l.invalid || m.invalid;
      short = l.short || m.short;
      overload = l.overload || m.overload;
      absent = l.absent || m.absent;
    }

-- "Condition: 0 in DISABLED, 1 in IDLE, DETECTING, BACKOFF, CLASSIFYING, 2 in POWER_UP, POWER_ON, 3 in TEST_MODE, 4 in ERROR_DELAY, TEST_ERROR."
abbrev pub condition_code : Condition → ℕ
condition_code Disabled = 0
condition_code Searching = 1
condition_code Delivering = 2
condition_code Testing = 3
condition_code Faulty = 4

-- bit 15 is zero, and the eight latches stand in 14 to 7 as `bit_of` says (request [7], in place of "15:13 zero" and six);
-- "6:4 class; 3:1 condition; bit 0 is 1." Of a class the word has room for three bits.
unfoldable pub status_word : Latches → ℕ → Condition → ℕ
status_word l class c = placed bit_of l + 16 * (class % 8) + 2 * condition_code c + 1
