-- What is proved of specs/Limits.
-- Assumes nothing.
use mathlib.Core.Path.{refl}
use Rattle.lists.specs.Bytes.{word_at}
use Rattle.lists.specs.Bits.{bit, field, above}
use Rattle.lists.specs.Entries.{some}
use Rattle.power.specs.Power.{supply_of}
use Rattle.class.specs.Class.{class_of, is_four, class_of_two, budget_of, is_demand}
use Rattle.sample.specs.Sample.{sample_at, sample_of, flags_of, reserved_flags}
use Rattle.signature.specs.Signature.{outside, by_differences, signature_of}
use Rattle.control.specs.Control.{enable_of, pair_of, priority_of, control_of, refused}
use Rattle.status.specs.Status.{status_word}
use Rattle.statements.specs.ClassRows.{classes}
use Rattle.statements.specs.Rows.{Holds, meaning}
use Rattle.statements.specs.ReadingRows.{signatures, powers, samples}
use Rattle.statements.specs.WordRows.{controls, statuses}
use Rattle.statements.specs.Limits.{limits}

pub limits_hold : Holds limits
unfolding limits signatures classes powers controls statuses samples meaning signature_of outside by_differences class_of is_four class_of_two budget_of is_demand some supply_of refused control_of enable_of pair_of priority_of field above status_word flags_of reserved_flags sample_of sample_at word_at bit
limits_hold = refl
