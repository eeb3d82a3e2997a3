-- Where all claims fit who asks is admitted, and otherwise every claim is kept or shed.
use Rattle.std.proofs.Common.{◌≡◌, ℕ, ◌+◌, ◌∙◌, Bool, true, false, List, leb, get_or, sym, ap, ap₂, arith}
use Rattle.lists.specs.Total.{total}
use Rattle.share.specs.declared.Claim.{Claim}
use Rattle.cells.specs.Cells.{written}
use Rattle.cells.proofs.Laws.{written_cong}
use Rattle.claims.specs.Claimed.{wants, claims_on}
use Rattle.claims.proofs.Claimed.{wanted_in_lem, claims_in_lem}
use Rattle.passes.specs.Passes.{kept_on, settled_by, admitted_by, shared_by}
use Rattle.tick.proofs.sharing.share_out.Goals as goal

pub returns-then-all_fit : goal.returns-then-all_fit
unfolding shared_by
returns-then-all_fit c =
    let a = c.args in
    let l = a.cells.now in
    let lane = a.lane.now in
    let w = c.wanted.ensures ∙ wanted_in_lem a.n lane l c.requires.few c.told-cells c.told-lane in
    let fits : leb (a.drawn + total a.n (λ q. wants (get_or lane q 0) l q)) a.supply.0 ≡ true = ap (λ (k : ℕ). leb (a.drawn + k) a.supply.0) (sym w) ∙ sym c.all_fit.ensures ∙ c.if-all_fit.true in
    c.admit.ensures ∙ written_cong a.n (admitted_by lane l) (shared_by a.n lane a.drawn a.supply.0 l) l c.requires.few (omega (arith, c.told-cells)) (λ p h. simp fits)

pub returns-else-all_fit : goal.returns-else-all_fit
unfolding shared_by kept_on
returns-else-all_fit c =
    let a = c.args in
    let l = a.cells.now in
    let lane = a.lane.now in
    let w = c.wanted.ensures ∙ wanted_in_lem a.n lane l c.requires.few c.told-cells c.told-lane in
    let over : leb (a.drawn + total a.n (λ q. wants (get_or lane q 0) l q)) a.supply.0 ≡ false = ap (λ (k : ℕ). leb (a.drawn + k) a.supply.0) (sym w) ∙ sym c.all_fit.ensures ∙ c.if-all_fit.false in
    let claims = c.claims_of-claims.ensures ∙ claims_in_lem a.n lane l c.requires.few c.told-cells c.told-lane in
    let kept : c.kept.result ≡ kept_on (claims_on a.n lane l) a.supply.0 = c.kept.ensures ∙ ap (λ (k : List Claim). kept_on k a.supply.0) claims in
    c.settle_all.ensures
    ∙ ap₂ (λ (r : List Claim) (k : List Bool). written a.n (settled_by r k l) l) claims kept
    ∙ written_cong a.n (settled_by (claims_on a.n lane l) (kept_on (claims_on a.n lane l) a.supply.0) l) (shared_by a.n lane a.drawn a.supply.0 l) l c.requires.few (omega (arith, c.told-cells)) (λ p h. simp over)
