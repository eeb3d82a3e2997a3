-- Document 01, "The port's move in one tick": the two enable rules, and then the rule of the port's state.
use Rattle.std.specs.Prelude.{cond, ◌&&◌}
use Rattle.power.specs.declared.Power.{Power}
use Rattle.control.specs.Control.{enable_of}
use Rattle.enable.specs.Enable.{is_off, is_forced}
use Rattle.port.specs.declared.form.State.{State}
use Rattle.port.specs.declared.form.State.TheVariants.{Disabled, Idle, Detecting, Backoff, Classifying, PowerUp, PowerOn, ErrorDelay, TestMode, TestError}
use Rattle.port.specs.declared.form.Port.{Port}
use Rattle.port.specs.declared.form.Reading.{Reading}
use Rattle.port.specs.declared.form.Moved.{Moved}
use Rattle.port.specs.Changes.{quietly}
use Rattle.port.specs.Entry.{enter}
use Rattle.port.specs.States.{gives_way}
use Rattle.diagram.specs.Rules.{idle, detecting, backoff, error_delay_rule, classifying, power_up, power_on_rule, test_mode, test_error}

-- "DISABLED goes to IDLE", and the rules of the other states
unfoldable pub by_state : State → Power → Port → Reading → Moved
by_state Disabled claim p r = quietly (enter Idle p)
by_state Idle claim p r = idle claim p
by_state Detecting claim p r = detecting p r
by_state Backoff claim p r = backoff p
by_state Classifying claim p r = classifying p r
by_state PowerUp claim p r = power_up p r
by_state PowerOn claim p r = power_on_rule p r
by_state ErrorDelay claim p r = error_delay_rule p
by_state TestMode claim p r = test_mode p r
by_state TestError claim p r = test_error p

-- "First, in every state: enable 00 goes to DISABLED. Next, enable 10 sends .. to IDLE. Otherwise:"
unfoldable pub step : Power → Port → Reading → Moved
step claim p r =
    cond (is_off (enable_of p.control)) (quietly (enter Disabled p))
    (cond (is_forced (enable_of p.control) && gives_way p.state) (quietly (enter Idle p))
    (by_state p.state claim p r))
