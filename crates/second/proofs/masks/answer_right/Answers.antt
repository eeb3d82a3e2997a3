-- `answer_right` is its four tests. Assumes nothing.
use Rattle.second.specs.Answers.{answer_right}
use Rattle.second.proofs.Answers.{tests_right}
use Rattle.second.proofs.masks.answer_right.Goals as goal

pub returns-in-Ok : goal.returns-in-Ok
unfolding answer_right
returns-in-Ok c =
    tests_right _ c.in-Ok.closed _ _ _ _ _ _ c.apart.ensures c.bits_right.ensures c.bits_right-in-Ok.ensures c.ones_in.ensures.0 c.ones_in-in-Ok.ensures.0 c.in-Ok.is

pub returns-in-Err : goal.returns-in-Err
unfolding answer_right
returns-in-Err c = simp c.in-Err.is
