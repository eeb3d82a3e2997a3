-- What is proved of specs/Unique.
-- Assumes nothing.
use Prim.Native.Nat.{ℕ}
use mathlib.Core.Path.{◌≡◌, sym, ◌∙◌, ap}
use mathlib.Core.Bool.{Bool, cond}
use mathlib.Core.List.{List}
use Rattle.verdict.specs.declared.Verdict.{Verdict}
use Rattle.verdict.specs.declared.Verdict.TheVariants.{Held, NotAsked}
use Rattle.statements.specs.History.{ticked}
use Rattle.marks.specs.Mark.{noted_mark}
use Rattle.history.specs.Lent.{ran_on}
use Rattle.history.specs.Marks.{noted_all}
use Rattle.third_tests.specs.Answers.{none_lost_in, sound_in}
use Rattle.third_tests.specs.Asks.{asks}
use Rattle.third.specs.Unique.{Unique}

one : (A : Type 0) (x r s : A) → r ≡ x → s ≡ x → r ≡ s
one A x r s p q = p ∙ sym q

pub unique : Unique
unique =
    record {
      marks_bytes_word_at = λ bytes at r s p q. p.0 ∙ sym q.0;
      marks_noted = λ state ticked block p mark. one ℕ (noted_mark state ticked block p mark);
      history_run = λ history ports r s p q. let c = p.0 ∙ sym q.0 in let m = p.1 ∙ sym q.1 in λ k. record { cells = c k; shown = m k };
      history_tick_from =
          λ from block figure r s p q.
          let c = p.0 ∙ sym q.0 in
          let n : (x : List ℕ) → List ℕ = λ x. noted_all x (ran_on from.cells (ticked block figure)) block from.shown in
          let m : r.shown ≡ s.shown = p.1 ∙ ap n c ∙ sym q.1 in
          let a = p.2 ∙ sym q.2 in
          λ k. record { cells = c k; shown = m k; answer = a k };
      third_tests_answers_none_lost = λ first second. one Bool (none_lost_in first second);
      third_tests_answers_sound = λ tried figure. one Bool (sound_in tried.cells tried.shown tried.answer figure);
      third_tests_asked_asked = λ ports block less more. one Bool (asks ports block less more);
      third_third_demand = λ history ports block less more. one Verdict (cond (asks ports block less more) Held NotAsked);
    }
