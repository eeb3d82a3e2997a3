-- The claim of a port and what the sharing does to it, by what the passes over the places hand on: the state after the move, a control
-- word and a rank in place of a whole move. A reader needs none of this: `rank` and `settled` are the meaning, and the laws here say that it is theirs.
-- Assumes nothing.
use Rattle.std.specs.Prelude.{ℕ, ◌+◌, Bool, cond, not, ◌&&◌, ◌||◌, leb, ltb}
use Rattle.control.specs.Control.{priority_of}
use Rattle.port.specs.declared.form.State.{State}
use Rattle.port.specs.declared.form.Port.{Port}
use Rattle.port.specs.declared.form.Moved.{Moved}
use Rattle.port.specs.States.{closed}
use Rattle.settling.specs.Settle.{urgency, granted, shed}
use Rattle.port.specs.Changes.{quietly}
use Rattle.share.specs.Share.{no_claim}

-- the rank, by the state after the move, the control word and whether the port asks
unfoldable pub rank_in : State → ℕ → Bool → ℕ
rank_in now control asks =
    cond (closed now) (urgency (priority_of control))
    (cond asks (3 + urgency (priority_of control))
    no_claim)

-- what the sharing makes of a port, by the rank of its claim, which tells who asked
unfoldable pub settled_as : ℕ → Bool → Port → Moved
settled_as r kept p =
    cond (leb no_claim r) (quietly p)
    (cond kept (quietly (cond (leb 3 r) (granted p.state p) p))
    (shed p))

-- does it change the port: a claim that is shed, or an asker's that is kept
unfoldable pub settling_changes : ℕ → Bool → Bool
settling_changes r kept = ltb r no_claim && (not kept || leb 3 r)
