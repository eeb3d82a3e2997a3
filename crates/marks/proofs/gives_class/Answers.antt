-- `gives_class` is that of the sample. Assumes nothing.
use Rattle.std.proofs.Common.{ℕ, ◌/◌, ◌%◌, ◌&&◌, eqb, ◌∙◌, ap, ap₂}
use Rattle.lists.specs.Bits.{bit}
use Rattle.class.specs.Class.{class_of_two}
use Rattle.sample.specs.Sample.{sample_at, flags_of}
use Rattle.statements.specs.History.{is_class, gives_class}
use Rattle.marks.proofs.gives_class.Goals as goal

pub returns : goal.returns
unfolding gives_class sample_at flags_of bit
returns c =
    ap₂ ◌&&◌ (ap (λ (n : ℕ). eqb (n / 2 % 2) 1) c.word_at.ensures.0)
    (c.is_class.ensures ∙ ap₂ (λ (x y : ℕ). is_class (class_of_two x y).shown) c.word_at-2.ensures.0 c.word_at-3.ensures.0)
