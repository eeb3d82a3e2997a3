-- Document 01, "Sharing the supply": what a port does after its claim was kept or shed.
use Rattle.std.specs.Prelude.{ℕ, ◌+◌, Bool, cond, ◌&&◌, leb}
use Rattle.control.specs.Control.{priority_of}
use Rattle.control.specs.declared.Priority.{Priority}
use Rattle.control.specs.declared.Priority.TheVariants.{Unknown, Critical, High, Low}
use Rattle.port.specs.declared.form.State.{State}
use Rattle.port.specs.declared.form.State.TheVariants.{Disabled, Idle, Detecting, Backoff, Classifying, PowerUp, PowerOn, ErrorDelay, TestMode, TestError}
use Rattle.port.specs.declared.form.Port.{Port}
use Rattle.port.specs.declared.form.Moved.{Moved}
use Rattle.port.specs.States.{closed}
use Rattle.port.specs.Changes.{quietly, latching, latch_denied}
use Rattle.port.specs.Entry.{enter}
use Rattle.share.specs.Share.{no_claim}
use Rattle.port.specs.States.{in_test}

-- "critical, high, then low and unknown alike"
abbrev pub urgency : Priority → ℕ
urgency Critical = 0
urgency High = 1
urgency Low = 2
urgency Unknown = 2

-- "ports closed before the tick and still in POWER_UP, POWER_ON or TEST_MODE come first, then those asking": ranks 0 to 2 and 3 to 5
unfoldable pub rank : State → Moved → ℕ
rank before m =
    cond (closed before && closed m.port.state) (urgency (priority_of m.port.control))
    (cond m.asks (3 + urgency (priority_of m.port.control))
    no_claim)

-- "An asker kept enters its state": from IDLE TEST_MODE, from CLASSIFYING POWER_UP
unfoldable pub granted : State → Port → Port
granted Disabled p = p
granted Idle p = enter TestMode p
granted Detecting p = p
granted Backoff p = p
granted Classifying p = enter PowerUp p
granted PowerUp p = p
granted PowerOn p = p
granted ErrorDelay p = p
granted TestMode p = p
granted TestError p = p

-- "one shed goes to IDLE. A closed port shed goes to IDLE, or from TEST_MODE to TEST_ERROR. Each shed port latches 12."
unfoldable pub shed : Port → Moved
shed p = latching latch_denied (cond (in_test p.state) (enter TestError p) (enter Idle p))

-- what the sharing makes of a moved port, and what it latched, as a move tells it: the port had no claim, or its claim was kept or shed
unfoldable pub settled : ℕ → Bool → Moved → Moved
settled r kept m =
    cond (leb no_claim r) (quietly m.port)
    (cond kept (quietly (cond m.asks (granted m.port.state m.port) m.port))
    (shed m.port))
