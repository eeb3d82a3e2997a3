-- `second_tick` is never `Broken`: a tick that nothing refuses is right. Assumes nothing.
use Rattle.std.proofs.Common.{◌≡◌, ◌∙◌, arith}
use Rattle.lists.proofs.Tests.{not_both_lem}
use Rattle.interface.specs.Statement1C.{first_number, tick_list}
use Rattle.second.proofs.Second.{right_in}
use Rattle.second.proofs.second_tick.Goals as goal

pub returns-else-tick_right : goal.returns-else-tick_right
returns-else-tick_right c =
    let a = c.args in
    let zero : first_number (tick_list a.before a.block.now a.figure) ≡ 0 = omega arith in
    absurd (not_both_lem c.tick_right.result
    (c.tick_right.ensures ∙ right_in _ _ _ _ _ c.tick-answer.ensures.value c.tick-answer.ensures.cells_after zero)
    c.if-tick_right.false)
