-- `third_demand` is never `Broken`: each test that would say so is passed. Assumes nothing.
use Rattle.std.proofs.Common.{sym, ◌∙◌, ap₂}
use Rattle.lists.proofs.Tests.{not_both_lem, and_both}
use Rattle.third_tests.specs.Answers.{none_lost_in}
use Rattle.third_tests.specs.Asks.{Asked}
use Rattle.third_tests.proofs.Asks.{asked_so}
use Rattle.third.proofs.Third.{small, great, loses_none, answer_in, sound_in_lem}
use Rattle.third.proofs.third_demand.Goals as goal

pub returns-else-sound-none_lost : goal.returns-else-sound-none_lost
returns-else-sound-none_lost c =
    let a = c.args in
    let so : Asked a.ports a.block.now a.less a.more = asked_so _ _ _ _ (sym c.asked.ensures ∙ c.if-not-asked.false) in
    let r = c.run-reached.ensures in
    let t = c.tick_from-small.ensures in
    let u = c.tick_from-great.ensures in
    let s = c.sound.ensures ∙ sound_in_lem _ _ _ _ _ _ _ _ _ r.cells_value r.shown_value t.cells_value t.shown_value t.answer_value (small _ _ _ _ so) in
    let g = c.sound-2.ensures ∙ sound_in_lem _ _ _ _ _ _ _ _ _ r.cells_value r.shown_value u.cells_value u.shown_value u.answer_value (great _ _ _ _ so) in
    let n =
    c.none_lost.ensures
    ∙ ap₂ none_lost_in (answer_in _ _ _ _ _ _ _ _ _ r.cells_value r.shown_value t.cells_value t.shown_value t.answer_value) (answer_in _ _ _ _ _ _ _ _ _ r.cells_value r.shown_value u.cells_value u.shown_value u.answer_value)
    ∙ loses_none _ _ _ _ so _ in
    absurd (not_both_lem _ (and_both _ _ (and_both _ _ s g) n) c.if-sound-none_lost.false)
