-- What is proved of specs/MoveRows.
-- Assumes nothing.
use Prim.Native.Nat.{ℕ}
use mathlib.Core.Path.{◌≡◌, refl}
use mathlib.Core.Bool.{true, false}
use mathlib.Core.List.{[], ◌∷◌, map}
use Rattle.lists.specs.Bits.{bit, field}
use Rattle.lists.specs.Count.{mask}
use Rattle.lists.specs.Total.{total}
use Rattle.class.specs.Class.{class_of, is_four, class_of_two, budget_of}
use Rattle.sample.specs.Sample.{flags_of}
use Rattle.block.specs.Digest.{digest}
use Rattle.control.specs.Control.{enable_of, pair_of, priority_of}
use Rattle.status.specs.Status.{join}
use Rattle.port.specs.Entry.{up, during, enter}
use Rattle.diagram.specs.Rules.{idle, detected, detecting, backoff, error_delay_rule, classed, classifying, stressed, watched, risen, power_up, power_on_rule, test_mode, test_error}
use Rattle.settling.specs.Settle.{rank, granted, shed, settled}
use Rattle.diagram.specs.Step.{by_state, step}
use Rattle.port.specs.declared.form.Counts.{Counts}
use Rattle.port.specs.declared.form.State.TheVariants.{Idle, Classifying}
use Rattle.statements.specs.MoveWords.{on, force, counts, Before, Goes, move}
use Rattle.statements.specs.MoveRows.{rows}
use Rattle.statements.specs.CounterRows.{before, counted, counters, Ending, ended, endings}
use Rattle.statements.specs.ShareRows.{moved, Ranks, ranked, claims, Settles, settles, Rests, resting, rests, asker}

pub rows_hold : map (λ (r : Before × Goes). move r.0) rows ≡ map (λ (r : Before × Goes). r.1) rows
unfolding rows move digest flags_of bit class_of_two class_of is_four budget_of step by_state enable_of pair_of field up during idle detected detecting backoff error_delay_rule classed classifying stressed watched risen power_up power_on_rule test_mode test_error enter
rows_hold = refl

pub counters_hold : map (λ (r : Before × Counts). counted r.0) counters ≡ map (λ (r : Before × Counts). r.1) counters
unfolding counters counted step by_state enable_of pair_of field up during idle detected detecting backoff error_delay_rule classed classifying stressed watched risen power_up power_on_rule test_mode test_error enter
counters_hold = refl

pub endings_hold : map (λ (r : Ending × Counts). ended r.0) endings ≡ map (λ (r : Ending × Counts). r.1) endings
unfolding endings ended step by_state enable_of pair_of field up during idle detected detecting backoff error_delay_rule classed classifying stressed watched risen power_up power_on_rule test_mode test_error enter
endings_hold = refl

-- a counter stops at 2,000
pub counter_stops : map up (0 ∷ 1998 ∷ 1999 ∷ 2000 ∷ []) ≡ 1 ∷ 1999 ∷ 2000 ∷ 2000 ∷ []
unfolding up
counter_stops = refl

pub claims_hold : map (λ (r : Ranks × ℕ). ranked r.0) claims ≡ map (λ (r : Ranks × ℕ). r.1) claims
unfolding claims ranked rank priority_of field
claims_hold = refl

unfoldable pub settling_of : Settles → Rests
settling_of (settles r kept s asks) = resting (settled r kept (moved s on asks)).port

pub rests_hold : map (λ (r : Settles × Rests). settling_of r.0) rests ≡ map (λ (r : Settles × Rests). r.1) rests
unfolding rests settling_of settled granted shed enter join
rests_hold = refl

pub entries_hold :
    (settled 3 true (asker Classifying on)).port.counts ∷ (settled 3 true (asker Idle force)).port.counts ∷ (settled 3 false (asker Classifying on)).port.counts ∷ []
    ≡ counts 11 22 33 44 0 0 77 ∷ counts 11 22 33 44 0 0 77 ∷ before ∷ []
unfolding settled granted shed enter
entries_hold = refl

-- 48 closed ports fill bits 0 to 47 of a mask, and none of bits 48 to 63
pub full_mask : mask 48 (λ p. true) ≡ 281474976710655
unfolding mask total
full_mask = refl
