-- `bits_right` looks at every bit. Assumes nothing.
use Rattle.std.proofs.Common.{ℕ, eqb, ◌&&◌, refl, ◌∙◌, rules, tests}
use Rattle.std.proofs.lemmas.Iterator.{YieldsList-from_range}
use Rattle.std.proofs.lemmas.Iterator.Search.{all_from_yields_List}
use Rattle.lists.specs.Bits.{bit}
use Rattle.ill.proofs.Ranges.{every_range}
use Rattle.second.specs.Answers.{agree, closed_cell, named_cell, bits_right}
use Rattle.second.proofs.masks.bits_right.Goals as goal

pub returns : goal.returns
unfolding bits_right
returns c =
    all_from_yields_List (λ (p : ℕ). agree (bit p c.args.mask) (closed_cell c.args.cells.now p && eqb (named_cell c.args.cells.now p) c.args.alternative)) _ _ _ c.all.ensures.ran (YieldsList-from_range 0 64 64 refl refl) (λ x b q k. search (rules, tests)) ∙ every_range 64 _
