-- What is proved of specs/Weaker.
-- Assumes nothing.
use Prim.Native.Nat.{ℕ, ◌≤◌}
use mathlib.Core.Path.{◌≡◌, refl, sym, ◌∙◌, subst}
use mathlib.Core.Bool.{true, false, false≢true}
use mathlib.Core.List.{List, ◌∷◌}
use native.Mathlib.Omega.{arith}
use Rattle.lists.specs.Bytes.{word_at}
use Rattle.lists.specs.Bits.{bit, above, field}
use Rattle.lists.specs.Every.{some_below}
use Rattle.lists.specs.Places.{tabulate}
use Rattle.lists.specs.Entries.{some}
use Rattle.lists.specs.Total.{total}
use Rattle.power.specs.Power.{over}
use Rattle.class.specs.Class.{class_of, is_four, class_of_two, budget_of, is_demand}
use Rattle.sample.specs.Sample.{sample_at, reserved_flags, flags_of}
use Rattle.sample.specs.declared.Sample.{Sample}
use Rattle.signature.specs.Signature.{outside, by_differences, signature_of}
use Rattle.control.specs.Control.{enable_of, pair_of, priority_of, refused}
use Rattle.port.specs.Entry.{up, enter}
use Rattle.diagram.specs.Rules.{idle, detected, detecting, classed, classifying}
use Rattle.settling.specs.Settle.{rank, granted, shed, settled}
use Rattle.diagram.specs.Step.{by_state, step}
use Rattle.share.specs.Share.{claims, before, met, sum_where, down, keeps}
use Rattle.replies.specs.Calls.{cold_table, cold_start, same_alternative, write_control, with_control}
use Rattle.table.specs.Drawn.{draws, closed_sum, closed_at}
use Rattle.block.specs.Digest.{digest}
use Rattle.table.specs.Parts.{port_at, with_port, tells}
use Rattle.boards.specs.Sharing.{rank_at, claim_at, kept_at, settled_at, port_after, table_after}
use Rattle.boards.specs.Masks.{answered}
use Rattle.passes.specs.Tick.{moved_at, tick, flags_reserved}
use Rattle.table.specs.WellMade.{ill_port, ill_made}
use Rattle.port.specs.States.{is_idle}
use Rattle.statements.specs.History.{Call, after, reached, shows_signature, gives_class, nothing, signature, seen, adds, shown}
use Rattle.statements.specs.Weaker.{quiet, signs, gives, signed, under, Facts}

pub facts : Facts
unfolding quiet signs gives signed reached after shown adds seen shows_signature gives_class cold_start cold_table tells write_control same_alternative with_control with_port ill_made ill_port over some_below port_at refused field above is_demand some flags_reserved reserved_flags sample_at word_at tick answered table_after tabulate port_after settled_at digest flags_of bit signature_of outside by_differences class_of_two is_four class_of budget_of step by_state enable_of pair_of up idle detected detecting classifying classed rank_at moved_at rank priority_of kept_at claim_at keeps claims down sum_where total met before settled granted enter shed closed_sum draws closed_at
facts = record { waits = refl; closes = refl; shows_both = refl; adds_up = refl; remembers = refl; opens = refl; forgets = refl; too_early = refl }

-- the masks compared the other way round: false of our core
pub turned_round : ((p : ℕ) → closed_at (under 154) p ≡ true → closed_at (under 0) p ≡ true) → ⊥
turned_round turned = false≢true (sym facts.opens ∙ turned 0 facts.closes)

-- the sum bounded by 60,000 in place of the figure: a core that left this port closed under 3.9 W would pass it, and not ours
pub passes_60000 : closed_sum (under 154) ≤ 60000
passes_60000 = subst (λ n. n ≤ 60000) (sym facts.adds_up) (omega arith)

pub over_the_figure : closed_sum (under 154) ≤ 39 → ⊥
over_the_figure l = omega (arith, subst (λ n. n ≤ 39) facts.adds_up l)

-- "since it last stood in IDLE": a port that stands there has shown nothing
pub idle_has_shown_nothing : (n p : ℕ) (c : Call) (h : List Call) → is_idle (port_at (reached n (c ∷ h)) p).state ≡ true → shown n p (c ∷ h) ≡ nothing
unfolding shown
idle_has_shown_nothing n p c h e = simp e

-- no call but an accepted tick in which a class is given, or one that ends in IDLE, changes that a signature was shown
pub signature_stays : (s : Sample) → gives_class s ≡ false → seen s signature ≡ signature
unfolding seen
signature_stays s e = simp e
