-- All cells are 0 then, but for the count and the 48 control words: the checker computes each of them. Assumes nothing.
use Rattle.std.proofs.Common.{◌≡◌, refl, ◌∙◌, ap, replicate}
use Rattle.cells.specs.Cells.{cells_long}
use Rattle.lists.specs.Places.{tabulate}
use Rattle.replies.specs.Cold.{cold_cell}
use Rattle.replies.proofs.Cold.{cold_cells}
use Rattle.calls.proofs.fill.Goals as goal

pub returns : goal.returns
unfolding tabulate cold_cell
returns c =
    let a : c.fill.new.self ≡ replicate cells_long 0 = c.fill.ensures.after (λ y e. e) ∙ ap (λ n. replicate n 0) c.told-cells in
    let b : c.fill-2.new.self ≡ replicate 48 4 = c.fill-2.ensures.after (λ y e. e) ∙ rw a refl in
    rw (a, b) (cold_cells c.args.count)
