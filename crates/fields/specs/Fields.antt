-- Document 01, "The power TLV", with request [4] of document 02: which fields no TLV has.
use Rattle.std.specs.Prelude.{ℕ, Bool, false, ◌||◌, ltb}
use Rattle.sizes.specs.Sizes.{most_value}
use Rattle.fields.specs.declared.Form.{Form}
use Rattle.fields.specs.declared.Form.TheVariants.{Short, Long}

-- request [4], where document 01 has "power value outside 1..255": "Reading and writing a TLV now give refusal 10 only above 999."
unfoldable pub too_high : ℕ → Bool
too_high value = ltb most_value value

-- "the requested and allocated values, 16 bits each": one of them is too high
unfoldable pub bad_values : Form → Bool
bad_values Short = false
bad_values (Long added) = too_high added.requested || too_high added.allocated
