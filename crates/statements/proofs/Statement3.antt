-- What is proved of specs/Statement3.
-- Assumes nothing.
use Prim.Native.Nat.{ℕ, ◌≤◌}
use mathlib.Core.Path.{◌≡◌, refl, sym, ◌∙◌, subst}
use mathlib.Core.Bool.{true, false, false≢true}
use mathlib.Core.List.{List, ◌∷◌}
use mathlib.Core.Logic.{⊎_elim}
use lib.Dec.{ltb}
use borrow.Author.Tests.{ltb-true}
use Rattle.sizes.specs.Sizes.{most_ports}
use Rattle.lists.proofs.Tests.{and_left, and_right}
use Rattle.power.specs.Power.{tenths}
use Rattle.port.specs.States.{closed, in_test}
use Rattle.port.specs.declared.form.State.{State}
use Rattle.port.specs.declared.form.State.TheVariants.{Disabled, Idle, Detecting, Backoff, Classifying, PowerUp, PowerOn, ErrorDelay, TestMode, TestError}
use Rattle.table.specs.Drawn.{closed_sum, closed_at}
use Rattle.table.specs.Parts.{port_at}
use Rattle.table.proofs.Laws.{well_count}
use Rattle.boards.specs.Sharing.{table_after}
use Rattle.passes.specs.Tick.{moved_at, tick}
use Rattle.table.specs.declared.form.Table.{Table}
use Rattle.statements.specs.History.{Call, ticked, after, reached, accepted, Shown, nothing, signature, both, shown}
use Rattle.statements.proofs.Reached.{Stopped, Ran, tick_told_lem, reached_well, reached_needs}
use Rattle.boards.proofs.Laws.{more_closes, closed_fits}
use Rattle.statements.proofs.StaysWellMade.{opens}
use Rattle.statements.proofs.KeepsShown.{Needs}
use Rattle.statements.specs.Statement3.{ThirdStatement}

-- a closed state that is not TEST_MODE needs both
needs_both : (st : State) (x : Shown) → closed st ≡ true → in_test st ≡ false → Needs st x → x ≡ both
needs_both Disabled x c f n = absurd (false≢true c)
needs_both Idle x c f n = absurd (false≢true c)
needs_both Detecting x c f n = absurd (false≢true c)
needs_both Backoff x c f n = absurd (false≢true c)
needs_both Classifying x c f n = absurd (false≢true c)
needs_both PowerUp nothing c f n = absurd n
needs_both PowerUp signature c f n = absurd n
needs_both PowerUp both c f n = refl
needs_both PowerOn nothing c f n = absurd n
needs_both PowerOn signature c f n = absurd n
needs_both PowerOn both c f n = refl
needs_both ErrorDelay x c f n = absurd (false≢true c)
needs_both TestMode x c f n = absurd (false≢true (sym f))
needs_both TestError x c f n = absurd (false≢true c)

-- in any table that calls reach: a port that is closed outside TEST_MODE has shown both
pub closed_has_shown : (n : ℕ) → 1 ≤ n → n ≤ most_ports → (h : List Call) (p : ℕ) → closed_at (reached n h) p ≡ true → in_test (port_at (reached n h) p).state ≡ false → shown n p h ≡ both
unfolding closed_at
closed_has_shown n a b h p c f =
    needs_both (port_at (reached n h) p).state (shown n p h)
    (and_right (ltb p (reached n h).count) (closed (port_at (reached n h) p).state) c)
    f
    (reached_needs n a b h p (ltb-true p (reached n h).count (and_left (ltb p (reached n h).count) (closed (port_at (reached n h) p).state) c)))

-- an accepted tick's table
ran : (t : Table) (block : List ℕ) (figure : ℕ) → accepted (tick t block figure).answer ≡ true → (tick t block figure).table ≡ table_after t (moved_at t block) (tenths figure)
ran t block figure e =
    ⊎_elim
    (λ (x : Stopped t (tick t block figure)). absurd (false≢true (sym x.answer ∙ e)))
    (λ (x : Ran t block figure (tick t block figure)). x.table)
    (tick_told_lem t block figure)

pub statement_3 : ThirdStatement
unfolding reached after
statement_3 n a b h block less more le e f =
    let t = reached n h in
    let few = well_count t (reached_well n a b h) in
    let l = ran t block less e in
    let m = ran t block more f in
    record {
      closes_more = λ p c. subst (λ (u : Table). closed_at u p ≡ true) (sym m) (more_closes t (moved_at t block) few (tenths less) (tenths more) le p (subst (λ (u : Table). closed_at u p ≡ true) l c));
      fits_less = subst (λ (u : Table). closed_sum u ≤ less) (sym l) (closed_fits t (moved_at t block) few (λ p l. opens t block p) (tenths less));
      fits_more = subst (λ (u : Table). closed_sum u ≤ more) (sym m) (closed_fits t (moved_at t block) few (λ p l. opens t block p) (tenths more));
      shown_less = closed_has_shown n a b (ticked block less ∷ h);
      shown_more = closed_has_shown n a b (ticked block more ∷ h);
    }
