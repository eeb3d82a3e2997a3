-- `bad_counter` is the test of the seven counters. Assumes nothing.
use Rattle.std.proofs.Common.{ℕ, ◌+◌, ◌*◌, ltb, get_or, refl, rules, tests}
use Rattle.std.proofs.lemmas.Iterator.{YieldsList-from_range}
use Rattle.std.proofs.lemmas.Iterator.Search.{any_from_yields_List}
use Rattle.lists.specs.Entries.{some}
use Rattle.cells.specs.Cells.{counts_of}
use Rattle.ill.proofs.bad_counter.Goals as goal

pub returns : goal.returns
unfolding some counts_of
returns c =
    any_from_yields_List (λ (k : ℕ). ltb 2000 (get_or c.args.cells.now (248 + 48 * k + c.args.p) 0)) _ _ _ c.any.ensures.ran (YieldsList-from_range 0 7 7 refl refl) (λ x b q k. search (rules, tests))
