-- The words of the rows on moves: readings, control words, counters, ports, and where a port goes.
-- Assumes nothing.
use Rattle.std.specs.Prelude.{ℕ, Bool, true, false}
use Rattle.power.specs.Power.{tenths, forced}
use Rattle.status.specs.Status.{no_latches}
use Rattle.status.specs.declared.Latches.{Latches}
use Rattle.block.specs.Digest.{digest}
use Rattle.diagram.specs.Rules.{backoff}
use Rattle.settling.specs.Settle.{settled}
use Rattle.diagram.specs.Step.{step}
use Rattle.port.specs.declared.form.Classing.{Classing}
use Rattle.port.specs.declared.form.Classing.TheVariants.{NotDone as NotClassed}
use Rattle.port.specs.declared.form.Counts.{Counts}
use Rattle.port.specs.declared.form.Detection.{Detection}
use Rattle.port.specs.declared.form.Detection.TheVariants.{NotDone}
use Rattle.port.specs.declared.form.Moved.{Moved}
use Rattle.port.specs.declared.form.Port.{Port}
use Rattle.port.specs.declared.form.Reading.{Reading}
use Rattle.port.specs.declared.form.State.{State}
use Rattle.port.specs.declared.form.State.TheVariants.{Disabled, Idle, Detecting, Backoff, Classifying, PowerUp, PowerOn, ErrorDelay, TestMode, TestError}

-- what a sample reads: nothing is done and a load is present, but for what is named
abbrev pub reads : Detection → Classing → Bool → Bool → Bool → Bool → Reading
reads d k settles limits overloads load = record { detection = d; class = k; settled = settles; limiting = limits; overload = overloads; load = load }

abbrev pub quiet : Reading
quiet = reads NotDone NotClassed false false false true

abbrev pub detects : Detection → Reading
detects d = reads d NotClassed false false false true

abbrev pub gives : Classing → Reading
gives k = reads NotDone k false false false true

-- what a sample of two class currents reads, class done and nothing else
abbrev pub draws : ℕ → ℕ → Reading
draws c1 c2 = digest (record { v1 = 0; v2 = 0; i1 = 0; i2 = 0; c1 = c1; c2 = c2; flags = 2 })

abbrev pub settling : Reading
settling = reads NotDone NotClassed true false false true

abbrev pub limits : Reading
limits = reads NotDone NotClassed false true false true

abbrev pub overloads : Reading
overloads = reads NotDone NotClassed false false true true

abbrev pub does_both : Reading
does_both = reads NotDone NotClassed true true true true

abbrev pub unloaded : Reading
unloaded = reads NotDone NotClassed false false false false

-- control words on alternative A with enable 00, 01, 10 and 11, and on alternative B with enable 01
abbrev pub off : ℕ
off = 0x0004

abbrev pub on : ℕ
on = 0x0005

abbrev pub force : ℕ
force = 0x0006

abbrev pub reserved : ℕ
reserved = 0x0007

abbrev pub on_b_word : ℕ
on_b_word = 0x0009

abbrev pub counts : ℕ → ℕ → ℕ → ℕ → ℕ → ℕ → ℕ → Counts
counts a b c d e f g = record { detection = a; backoff = b; error_delay = c; power_on = d; limiting = e; overload = f; no_load = g }

-- the counters that run in a state at a number, the others at 0: a rule that looked at another's would miss its limit
abbrev pub running : State → ℕ → Counts
running Disabled n = counts 0 0 0 0 0 0 0
running Idle n = counts 0 0 0 0 0 0 0
running Detecting n = counts n 0 0 0 0 0 0
running Backoff n = counts 0 n 0 0 0 0 0
running Classifying n = counts 0 0 0 n 0 0 0
running PowerUp n = counts 0 0 0 n n n 0
running PowerOn n = counts 0 0 0 0 n n n
running ErrorDelay n = counts 0 0 n 0 0 0 0
running TestMode n = counts 0 0 0 0 n n 0
running TestError n = counts 0 0 0 0 0 0 0

-- a port of class 2 in a state, with a control word and counters
abbrev pub counting : State → ℕ → Counts → Port
counting s w c = record { state = s; class = 2; control = w; demand = tenths 70; latches = no_latches; counts = c }

abbrev pub port : State → ℕ → ℕ → Port
port s w n = counting s w (running s n)

-- a row's question
pub data Before : Type 0 where
  from : State → ℕ → ℕ → Reading → Before

-- where a port goes, with which class and demand; what it latches; whether it asks
pub record Goes : Type 0 where
  pub state : State
  pub class : ℕ
  pub demand : ℕ
  pub latched : Latches
  pub asks : Bool

abbrev pub told : Moved → Goes
told m = record { state = m.port.state; class = m.port.class; demand = m.port.demand.0; latched = m.latched; asks = m.asks }

unfoldable pub move : Before → Goes
move (from s w n r) = told (step forced (port s w n) r)

-- it goes to a state and keeps class and demand; to an open one that has no demand; the same with a latch
abbrev pub to : State → Goes
to s = record { state = s; class = 2; demand = 70; latched = no_latches; asks = false }

abbrev pub to_idle : Goes
to_idle = record { state = Idle; class = 2; demand = 0; latched = no_latches; asks = false }

abbrev pub to_disabled : Goes
to_disabled = record { state = Disabled; class = 2; demand = 0; latched = no_latches; asks = false }

abbrev pub latches : Latches → State → Goes
latches l s = record { state = s; class = 2; demand = 70; latched = l; asks = false }

abbrev pub idle_with : Latches → Goes
idle_with l = record { state = Idle; class = 2; demand = 0; latched = l; asks = false }
