-- `second_shares` is never `Broken`: a tick that nothing refuses, on cells where no port has latch 12, shares the supply right. Assumes nothing.
use Rattle.std.proofs.Common.{◌≡◌, true, sym, ◌∙◌, arith}
use Rattle.lists.proofs.Tests.{not_both_lem}
use Rattle.interface.specs.Statement1C.{first_number, tick_list}
use Rattle.second_sharing.specs.Shared.{none_denied}
use Rattle.second_sharing.proofs.Sharing.{shares_in}
use Rattle.second_sharing.proofs.second_shares.Goals as goal

pub returns-else-shares_right : goal.returns-else-shares_right
returns-else-shares_right c =
    let a = c.args in
    let zero : first_number (tick_list a.before a.block.now a.figure) ≡ 0 = omega arith in
    let none : none_denied a.before ≡ true = sym c.none_denied.ensures ∙ c.if-not-none_denied.false in
    absurd (not_both_lem c.shares_right.result
    (c.shares_right.ensures ∙ shares_in _ _ _ _ c.tick.ensures.cells_after zero none)
    c.if-shares_right.false)
