-- What is closed is added up first.
use Rattle.std.proofs.Common.{◌≡◌, ℕ, ◌||◌, ◌∙◌, true, false, ltb, sym, ap}
use Rattle.cells.specs.Cells.{written}
use Rattle.tally.specs.Tally.{drawn_on}
use Rattle.tally.proofs.Tally.{drawn_in_lem}
use Rattle.passes.specs.Passes.{shared_by, shared_on}
use Rattle.tick.proofs.share_all.Goals as goal

pub returns-then-asks-supply : goal.returns-then-asks-supply
unfolding shared_on
returns-then-asks-supply c =
    let a = c.args in
    let l = a.cells.now in
    let d : c.drawn-drawn.result ≡ drawn_on a.n l = c.drawn-drawn.ensures ∙ drawn_in_lem a.n l c.requires.few c.told-cells in
    let t : (a.asks || ltb a.supply.0 (drawn_on a.n l)) ≡ true = ap (λ (k : ℕ). a.asks || ltb a.supply.0 k) (sym d) ∙ c.if-asks-supply.true in
    simp t (c.share_out.ensures ∙ ap (λ (k : ℕ). written a.n (shared_by a.n a.lane.now k a.supply.0 l) l) d)

pub returns-else-asks-supply : goal.returns-else-asks-supply
unfolding shared_on
returns-else-asks-supply c =
    let a = c.args in
    let l = a.cells.now in
    let d : c.drawn-drawn.result ≡ drawn_on a.n l = c.drawn-drawn.ensures ∙ drawn_in_lem a.n l c.requires.few c.told-cells in
    let t : (a.asks || ltb a.supply.0 (drawn_on a.n l)) ≡ false = ap (λ (k : ℕ). a.asks || ltb a.supply.0 k) (sym d) ∙ c.if-asks-supply.false in
    simp t
