-- `bad_flags`: some port has a reserved flag. Assumes nothing.
use Rattle.std.proofs.Common.{◌∙◌, refl, arith, rules, tests}
use Rattle.std.proofs.lemmas.Iterator.{YieldsList-from_range}
use Rattle.std.proofs.lemmas.Iterator.Search.{any_from_yields_List}
use Rattle.lists.specs.Bits.{above}
use Rattle.lists.specs.Bytes.{word_at}
use Rattle.sample.specs.Sample.{sample_at, reserved_flags}
use Rattle.ill.proofs.Ranges.{some_range}
use Rattle.order.proofs.Order.{reserved_at}
use Rattle.order.proofs.ticking.bad_flags.Goals as goal

pub returns : goal.returns
unfolding reserved_flags sample_at word_at above
returns c =
    any_from_yields_List (reserved_at c.args.block.now) _ _ _ c.any.ensures.ran (YieldsList-from_range 0 c.args.ports c.args.ports refl (omega arith)) (λ x b q k. search (rules, tests)) ∙ some_range c.args.ports _
