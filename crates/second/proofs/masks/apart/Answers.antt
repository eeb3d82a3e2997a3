-- `apart` looks at every bit. Assumes nothing.
use Rattle.std.proofs.Common.{ℕ, not, ◌&&◌, refl, ◌∙◌, rules, tests}
use Rattle.std.proofs.lemmas.Iterator.{YieldsList-from_range}
use Rattle.std.proofs.lemmas.Iterator.Search.{all_from_yields_List}
use Rattle.lists.specs.Bits.{bit}
use Rattle.ill.proofs.Ranges.{every_range}
use Rattle.second.specs.Answers.{apart}
use Rattle.second.proofs.masks.apart.Goals as goal

pub returns : goal.returns
unfolding apart
returns c =
    all_from_yields_List (λ (p : ℕ). not (bit p c.args.a && bit p c.args.b)) _ _ _ c.all.ensures.ran (YieldsList-from_range 0 64 64 refl refl) (λ x b q k. search (rules, tests)) ∙ every_range 64 _
