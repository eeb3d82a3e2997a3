-- What is proved of specs/Same.
-- Assumes nothing.
use mathlib.Core.Path.{◌≡◌, refl}
use mathlib.Core.Bool.{true}
use borrow.Author.Tests.{eq-eqb}
use Rattle.fields.specs.declared.Fields.{Fields}
use Rattle.fields.specs.declared.Form.{Form}
use Rattle.fields.specs.declared.Form.TheVariants.{Short, Long}
use Rattle.second_frames.specs.Same.{same_added, same_form, same_fields}

-- ---- fields are the same as themselves

form_self : (x : Form) → same_form x x ≡ true
unfolding same_form same_added
form_self Short = refl
form_self (Long a) =
    simp (eq-eqb a.kind a.kind refl, eq-eqb a.source a.source refl, eq-eqb a.priority a.priority refl, eq-eqb a.requested a.requested refl, eq-eqb a.allocated a.allocated refl)

pub fields_self : (x : Fields) → same_fields x x ≡ true
unfolding same_fields
fields_self x = simp (eq-eqb x.support x.support refl, eq-eqb x.pair x.pair refl, eq-eqb x.class x.class refl, form_self x.form)
