-- `tick` hands on what `ipaqsuni_tick` answers and leaves in the masks. Assumes nothing.
use Rattle.history.proofs.tick.Goals as goal

pub returns : goal.returns
returns c =
    let told = c.ipaqsuni_tick-number.ensures in
    record { value = λ k. record { number = told.value k; a = told.a_after k; b = told.b_after k }; cells_after = told.cells_after }
