-- What is proved of specs/Rows.
-- Assumes nothing.
use mathlib.Core.Path.{refl}
use Rattle.class.specs.Class.{class_of, is_four, class_of_two}
use Rattle.four_pair.specs.FourPair.{third, class_of_three, budget_of, largest_of, over_class, through, first_of, loss_of, demand_for, is_demand}
use Rattle.four_pair.specs.Rows.{Holds, meaning, currents, requests, losses}

pub currents_hold : Holds currents
unfolding currents meaning class_of_three third class_of_two is_four class_of
currents_hold = refl

pub requests_hold : Holds requests
unfolding requests meaning budget_of is_demand over_class largest_of
requests_hold = refl

pub losses_hold : Holds losses
unfolding losses meaning loss_of first_of through demand_for budget_of
losses_hold = refl
