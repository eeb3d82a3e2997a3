-- What the two bits say of an alternative, at each number that they can be.
use Rattle.std.proofs.Common.{◌≡◌, ℕ, ◌+◌, ◌*◌, ◌/◌, ◌%◌, ◌<◌, Bool, true, false, ◌&&◌, eqb, refl, arith}
use Rattle.lists.specs.Bits.{field, choose, one}
use Rattle.lists.specs.Places.{tabulate}
use Rattle.lists.proofs.Places.{tabulate_at}
use Rattle.control.specs.Control.{pair_of}
use Rattle.control.specs.declared.Pair.TheVariants.{Neither, A, B, Both}
use Rattle.port.specs.States.{closed}
use Rattle.port.specs.declared.form.State.{State}
use Rattle.boards.specs.Masks.{names_a, names_b}
use Rattle.cells.specs.Codes.{state_of}
use Rattle.tally.specs.Tally.{side_in}
use Rattle.tally.proofs.side_of.Goals as goal

of_bits : (b : Bool) (v : ℕ) → v < 4 → one (b && eqb v 1) + 256 * one (b && eqb v 2) ≡ one (b && names_a (choose Neither A B Both v)) + 256 * one (b && names_b (choose Neither A B Both v))
unfolding tabulate
of_bits true v h = tabulate_at 4 (λ k. one (eqb k 1) + 256 * one (eqb k 2)) (λ k. one (names_a (choose Neither A B Both k)) + 256 * one (names_b (choose Neither A B Both k))) refl v h
of_bits false v h = refl

picked : (s : State) (w : ℕ) → one (closed s && eqb (w / 4 % 4) 1) + 256 * one (closed s && eqb (w / 4 % 4) 2) ≡ side_in s w
unfolding side_in pair_of field
picked s w = of_bits (closed s) (w / 4 % 4) (omega arith)

pub returns : goal.returns
returns c = simp c.is_shut-shut.ensures (picked (state_of c.args.state) c.args.control)
