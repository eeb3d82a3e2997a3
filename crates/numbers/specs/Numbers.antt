-- A power TLV's fields as nine numbers: form (7 or 12), support, pair, class, type, source, priority, requested, allocated.
use Rattle.std.specs.Prelude.{ℕ, Bool, cond, ◌||◌, not, List, eqb, ltb, get_or}
use Rattle.fields.specs.declared.Form.{Form}
use Rattle.fields.specs.declared.Form.TheVariants.{Short, Long}

-- include/ipaqsuni.h: "a form other than 7 and 12"
unfoldable pub no_form : ℕ → Bool
no_form form = not (eqb form 7 || eqb form 12)

-- refusal 3 of the interface: a form other than 7 and 12, or one of the three octets over 255
unfoldable pub no_fields : List ℕ → Bool
no_fields n = no_form (get_or n 0 0) || (ltb 255 (get_or n 1 0) || (ltb 255 (get_or n 2 0) || ltb 255 (get_or n 3 0)))

-- nine numbers as a TLV's form; form 7 has no more than its three octets
unfoldable pub form_given : List ℕ → Form
form_given n =
    cond (eqb (get_or n 0 0) 7) Short
    (Long (record { kind = get_or n 4 0; source = get_or n 5 0; priority = get_or n 6 0; requested = get_or n 7 0; allocated = get_or n 8 0 }))
