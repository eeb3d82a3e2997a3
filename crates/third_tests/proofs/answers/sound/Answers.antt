-- `sound` is its three tests. Assumes nothing.
use Rattle.std.proofs.Common.{ℕ, ◌&&◌, eqb, leb, ap, ap₂}
use Rattle.third_tests.specs.Answers.{sound_in}
use Rattle.third_tests.proofs.answers.sound.Goals as goal

pub returns : goal.returns
unfolding sound_in
returns c =
    let a = c.args in
    ap₂ ◌&&◌ (ap (λ (n : ℕ). eqb a.tried.answer.number 0 && leb n a.figure) c.demands_in.ensures) c.all_shown.ensures
