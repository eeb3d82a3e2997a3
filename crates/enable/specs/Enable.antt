-- Document 01, "Words on the management side": what a port's enable code asks for.
use Rattle.std.specs.Prelude.{Bool, true, false}
use Rattle.control.specs.declared.Enable.{Enable}
use Rattle.control.specs.declared.Enable.TheVariants.{Disabled, Enabled, Forced, Reserved}

-- enable 00, 01 and 10 of the port's move: 11 is none of them
abbrev pub is_off : Enable → Bool
is_off Disabled = true
is_off Enabled = false
is_off Forced = false
is_off Reserved = false

abbrev pub is_on : Enable → Bool
is_on Disabled = false
is_on Enabled = true
is_on Forced = false
is_on Reserved = false

abbrev pub is_forced : Enable → Bool
is_forced Disabled = false
is_forced Enabled = false
is_forced Forced = true
is_forced Reserved = false
