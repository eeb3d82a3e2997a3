-- What is proved of specs/WrongCores.
-- Assumes nothing.
use Prim.Native.Nat.{ℕ, ◌+◌, ◌<◌}
use mathlib.Core.Path.{◌≡◌, refl, sym, ◌∙◌, ap, ap₂}
use mathlib.Core.Bool.{Bool, true, false, ◌&&◌, false≢true}
use mathlib.Core.List.{List}
use native.Mathlib.Omega.{arith}
use lib.Count.{ones}
use lib.Dec.{ltb}
use Rattle.lists.specs.Bytes.{word_at}
use Rattle.lists.specs.Bits.{bit, above, field}
use Rattle.std.specs.Prelude.{Result, Ok, Err}
use Rattle.sizes.specs.declared.refusals.Refusal.{Refusal}
use Rattle.lists.specs.Every.{some_below}
use Rattle.lists.specs.Entries.{some}
use Rattle.lists.specs.Total.{total}
use Rattle.power.specs.Power.{over}
use Rattle.class.specs.Class.{class_of, is_four, class_of_two, budget_of, is_demand}
use Rattle.sample.specs.Sample.{sample_at, reserved_flags, flags_of}
use Rattle.control.specs.Control.{enable_of, pair_of, priority_of, refused}
use Rattle.port.specs.Entry.{up, enter}
use Rattle.diagram.specs.Rules.{classed, classifying}
use Rattle.port.specs.States.{closed}
use Rattle.settling.specs.Settle.{rank, granted, shed, settled}
use Rattle.diagram.specs.Step.{by_state, step}
use Rattle.port.specs.declared.form.Port.{Port}
use Rattle.share.specs.Share.{claims, before, met, sum_where, down, keeps}
use Rattle.block.specs.Digest.{digest}
use Rattle.table.specs.Parts.{port_at}
use Rattle.boards.proofs.MaskLaws.{closed_number_lem}
use Rattle.boards.specs.Sharing.{rank_at, claim_at, kept_at}
use Rattle.boards.specs.Masks.{names_a}
use Rattle.table.specs.Drawn.{closed_at}
use Rattle.passes.specs.Tick.{moved_at, tick_refusals, flags_reserved}
use Rattle.table.specs.WellMade.{ill_port, ill_made, well_made}
use Rattle.table.specs.declared.form.Closed.{Closed}
use Rattle.table.specs.declared.form.Table.{Table}
use Rattle.statements.specs.Statement1.{Outcome, value, number, first_of}
use Rattle.statements.specs.Statement2.{Ticks}
use Rattle.statements.specs.WrongCores.{two, both, settles, Here}

abbrev is_value : Outcome → Bool
is_value value = true
is_value (number k) = false

abbrev mask_in : Result Closed Refusal → ℕ
mask_in (Ok closed) = closed.a
mask_in (Err refusal) = 0

abbrev other_mask_in : Result Closed Refusal → ℕ
other_mask_in (Ok closed) = closed.b
other_mask_in (Err refusal) = 0

abbrev number_in : Result Closed Refusal → ℕ
number_in (Ok closed) = closed.number
number_in (Err refusal) = 0

-- "a core that refuses always (number table)": by the first statement this tick is answered
answered_here : first_of (tick_refusals two both 80) ≡ value
unfolding two both ill_made ill_port over some_below port_at refused field above is_demand some flags_reserved reserved_flags sample_at word_at
answered_here = refl

pub refuses_always : (k : ℕ) → number k ≡ first_of (tick_refusals two both 80) → ⊥
refuses_always k e = false≢true (ap is_value (e ∙ answered_here))

here : Here
unfolding two both port_at sample_at word_at digest flags_of bit class_of_two is_four class_of budget_of step by_state enable_of pair_of field up classifying classed rank_at moved_at rank priority_of kept_at claim_at keeps claims down sum_where total met before settled granted enter shed
here = record { first_was_open = refl; second_was_open = refl; first_closes = refl; first_is_a = refl; second_closes = refl; first_opens = refl }

module _ (after : Table) where
  -- what a tick of this table leaves of a port
  state_after : (figure : ℕ) (a : Result Closed Refusal) (p : ℕ) → p < 2 → Ticks two both figure after a → closed (port_at after p).state ≡ closed (settles figure p).state
  unfolding two
  state_after figure a p l x = ap (λ (port : Port). closed port.state) (x.moved p l)

  -- "one that keeps every port open": demand 2's moves
  pub keeps_every_port_open : (a : Result Closed Refusal) → ((p : ℕ) → closed (port_at after p).state ≡ false) → Ticks two both 80 after a → ⊥
  keeps_every_port_open a all-open x = false≢true (sym (all-open 0) ∙ state_after 80 a 0 (omega arith) x ∙ here.first_closes)

  -- "a tick that hands back its table": demand 2
  pub hands_back_its_table : (a : Result Closed Refusal) → ((p : ℕ) → port_at after p ≡ port_at two p) → Ticks two both 80 after a → ⊥
  hands_back_its_table a as-was x =
      false≢true (sym here.first_was_open ∙ ap (λ (port : Port). closed port.state) (sym (as-was 0)) ∙ state_after 80 a 0 (omega arith) x ∙ here.first_closes)

  -- "one that moves port 0 and copies the rest": demand 2, each port
  pub moves_port_0_alone : (a : Result Closed Refusal) → port_at after 1 ≡ port_at two 1 → Ticks two both 80 after a → ⊥
  moves_port_0_alone a copied x =
      false≢true (sym here.second_was_open ∙ ap (λ (port : Port). closed port.state) (sym copied) ∙ state_after 80 a 1 (omega arith) x ∙ here.second_closes)

  -- the lowest bit of the mask for alternative A that is answered
  lowest : (figure : ℕ) (a : Result Closed Refusal) → Ticks two both figure after a → bit 0 (mask_in a) ≡ (closed (settles figure 0).state && names_a (pair_of (settles figure 0).control))
  unfolding two closed_at
  lowest figure a x =
      ap (λ (m : Result Closed Refusal). bit 0 (mask_in m)) x.answers
      ∙ x.bit_a 0 (omega arith)
      ∙ ap₂ (λ (n : ℕ) (port : Port). (ltb 0 n && closed port.state) && names_a (pair_of port.control)) x.same_count (x.moved 0 (omega arith))

  -- "a closed-port number not counted from the masks": the number is fixed by the ports in closed states, which are the ones in the masks
  pub number_is_counted : (t : Table) (block : List ℕ) (figure a b k : ℕ) → well_made after ≡ true → Ticks t block figure after (Ok (record { a = a; b = b; number = k })) → k ≡ ones a + ones b
  number_is_counted t block figure a b k w x =
      ap number_in x.answers ∙ sym (closed_number_lem after w)
      ∙ ap₂ (λ m n. ones m + ones n) (sym (ap mask_in x.answers)) (sym (ap other_mask_in x.answers))

-- "or answers constant masks", with any number: demand 2's ranking, which closes port 0 under 8.0 W and not under nothing
pub answers_constant_masks : (a b k j : ℕ) (under over : Table) → Ticks two both 0 under (Ok (record { a = a; b = b; number = k })) → Ticks two both 80 over (Ok (record { a = a; b = b; number = j })) → ⊥
answers_constant_masks a b k j under over x y =
    false≢true
    (sym (ap₂ ◌&&◌ here.first_opens refl)
    ∙ sym (lowest under 0 (Ok (record { a = a; b = b; number = k })) x) ∙ lowest over 80 (Ok (record { a = a; b = b; number = j })) y
    ∙ ap₂ ◌&&◌ here.first_closes here.first_is_a)
