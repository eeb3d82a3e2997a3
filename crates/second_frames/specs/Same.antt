-- Two TLVs' fields, compared one by one. That this means the same fields is in `Means`.
-- Assumes nothing.
use Rattle.std.specs.Prelude.{Bool, true, false, ◌&&◌, eqb}
use Rattle.fields.specs.declared.Added.{Added}
use Rattle.fields.specs.declared.Fields.{Fields}
use Rattle.fields.specs.declared.Form.{Form}
use Rattle.fields.specs.declared.Form.TheVariants.{Short, Long}

-- "7:6 type, 5:4 source, .. 1:0 priority .. and the requested and allocated values"
unfoldable pub same_added : Added → Added → Bool
same_added x y =
    (((eqb x.kind y.kind && eqb x.source y.source) && eqb x.priority y.priority) && eqb x.requested y.requested)
    && eqb x.allocated y.allocated

unfoldable pub same_form : Form → Form → Bool
same_form Short Short = true
same_form Short (Long b) = false
same_form (Long a) Short = false
same_form (Long a) (Long b) = same_added a b

-- "three octets kept as they are (support, pair, class)"
unfoldable pub same_fields : Fields → Fields → Bool
same_fields x y = ((eqb x.support y.support && eqb x.pair y.pair) && eqb x.class y.class) && same_form x.form y.form
