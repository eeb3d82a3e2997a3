-- Document 01, "What the proofs have to close off": wrong cores, each shut out by the statement that the document names for it. They are
-- shown on one table, of two ports in CLASSIFYING that both give class 1 and so ask for 4.0 W each. A wrong core is given by the table and
-- the answer that it hands back; what the statement says of these is then false.
-- Assumes nothing.
use Rattle.std.specs.Prelude.{ℕ, ◌≡◌, true, false, List, [], ◌∷◌, replicate}
use Rattle.power.specs.Power.{tenths, zero_power}
use Rattle.control.specs.Control.{pair_of}
use Rattle.status.specs.Status.{no_latches}
use Rattle.port.specs.States.{closed}
use Rattle.settling.specs.Settle.{settled}
use Rattle.port.specs.declared.form.Port.{Port}
use Rattle.port.specs.declared.form.State.TheVariants.{Classifying}
use Rattle.replies.specs.Calls.{cold_port}
use Rattle.table.specs.Parts.{port_at, zero_counts}
use Rattle.boards.specs.Sharing.{rank_at, kept_at}
use Rattle.boards.specs.Masks.{names_a}
use Rattle.passes.specs.Tick.{moved_at}
use Rattle.table.specs.declared.form.Table.{Table}
use Rattle.statements.specs.Statement2.{moves}

-- enable 01, alternative A
abbrev asker : Port
asker = record { state = Classifying; class = 0; control = 0x0005; demand = zero_power; latches = no_latches; counts = zero_counts }

unfoldable pub two : Table
two = record { ports = asker ∷ asker ∷ replicate 46 cold_port; count = 2; supply = zero_power }

-- class done, with a current of 10 mA, on both ports
unfoldable pub both : List ℕ
both =
    0 ∷ 0 ∷ 0 ∷ 0 ∷ 0 ∷ 0 ∷ 0 ∷ 0 ∷ 39 ∷ 16 ∷ 0 ∷ 0 ∷ 0 ∷ 2
    ∷ 0 ∷ 0 ∷ 0 ∷ 0 ∷ 0 ∷ 0 ∷ 0 ∷ 0 ∷ 39 ∷ 16 ∷ 0 ∷ 0 ∷ 0 ∷ 2 ∷ []

-- where a port of this table settles by the second statement
abbrev pub settles : ℕ → ℕ → Port
settles figure p = (settled (rank_at two (moved_at two both) p) (kept_at two (moved_at two both) (tenths figure) p) (moves two both p)).port

-- both were open, both are closed under 8.0 W, and the first is open again with nothing to share
pub record Here : Type 0 where
  pub first_was_open : closed (port_at two 0).state ≡ false
  pub second_was_open : closed (port_at two 1).state ≡ false
  pub first_closes : closed (settles 80 0).state ≡ true
  pub first_is_a : names_a (pair_of (settles 80 0).control) ≡ true
  pub second_closes : closed (settles 80 1).state ≡ true
  pub first_opens : closed (settles 0 0).state ≡ false
