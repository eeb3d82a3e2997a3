-- What follows of every board, for whoever stands above: its budgets, grants and forced claim are demands that a well-made port may have,
-- and so is none; a class that is shown is one that a well-made port may have.
-- Assumes nothing.
use Prim.Native.Nat.{ℕ, ◌≤◌}
use mathlib.Core.Path.{◌≡◌, refl}
use mathlib.Core.Bool.{true}
use native.Mathlib.Omega.{arith}
use borrow.Author.Tests.{le-leb}
use Rattle.lists.specs.Entries.{some}
use Rattle.power.specs.Power.{zero_power}
use Rattle.class.specs.Class as access
use Rattle.class.proofs.Laws as accessLaws
use Rattle.four_pair.specs.FourPair as fourPair
use Rattle.four_pair.proofs.Laws as fourPairLaws
use Rattle.four_pair.proofs.Laws.{at_most_class, four_is_four}
use Rattle.board.specs.Boards.{class_shown, most_class, budget_of, forced_claim, is_demand, demand_for}
use Rattle.board.specs.declared.Board.{Board}
use Rattle.board.specs.declared.Board.TheVariants.{Access, FourPair}

pub zero_is_demand : (board : Board) → is_demand board zero_power ≡ true
unfolding access.is_demand fourPair.is_demand some
zero_is_demand Access = refl
zero_is_demand FourPair = refl

pub forced_is_demand : (board : Board) → is_demand board (forced_claim board) ≡ true
unfolding access.is_demand fourPair.is_demand some
forced_is_demand Access = refl
forced_is_demand FourPair = refl

pub budget_is_demand : (board : Board) (class : ℕ) → is_demand board (budget_of board class) ≡ true
unfolding fourPair.is_demand
budget_is_demand Access k = accessLaws.budget_is_demand k
budget_is_demand FourPair k = le-leb _ 600 (fourPairLaws.budget_at_most k)

pub grant_is_demand : (board : Board) (value class : ℕ) → is_demand board (demand_for board value class) ≡ true
unfolding access.level_of fourPair.is_demand
grant_is_demand Access v k = accessLaws.budget_is_demand _
grant_is_demand FourPair v k = le-leb _ 600 (fourPairLaws.demand_for_at_most v k)

-- a class is at most the board's highest, if there is one
pub shown_at_most : (board : Board) (c1 c2 c3 : ℕ) → at_most_class (most_class board) (class_shown board c1 c2 c3).shown ≡ true
shown_at_most Access c1 c2 c3 = four_is_four (access.class_of_two c1 c2).shown (accessLaws.class_of_two_at_most_four c1 c2)
shown_at_most FourPair c1 c2 c3 = fourPairLaws.class_of_three_at_most_six c1 c2 c3

-- and fits a status word's three bits, on every board
pub most_class_small : (board : Board) → most_class board ≤ 6
most_class_small Access = omega arith
most_class_small FourPair = omega arith
