use Rattle.std.proofs.Common.{sym, ◌∙◌}
use Rattle.writer.proofs.Stored.{write_short, write_long}
use Rattle.writer.proofs.write.Goals as goal

pub returns-else-room-lt9 : goal.returns-else-room-lt9
returns-else-room-lt9 c =
    simp (c.copy_from_slice.ensures.after, c.head_bytes.ensures)
    (write_short _ _ (sym c.bad_codes.ensures ∙ c.if-bad_codes.false) (sym c.bad_values.ensures ∙ c.if-bad_values.false) c.in-Short.is c.if-room-lt9.false)

pub returns-else-room-lt14 : goal.returns-else-room-lt14
returns-else-room-lt14 c =
    simp (c.copy_from_slice-in-Long-2.ensures.after, c.added_bytes.ensures, c.copy_from_slice-in-Long.ensures.after, c.head_bytes-in-Long.ensures)
    (write_long _ _ (sym c.bad_codes.ensures ∙ c.if-bad_codes.false) (sym c.bad_values.ensures ∙ c.if-bad_values.false) _ c.in-Long.is c.if-room-lt14.false)
