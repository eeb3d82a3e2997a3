-- What is proved of specs/Cases.
-- Assumes nothing.
use mathlib.Core.Path.{refl}
use Rattle.lists.specs.Places.{tabulate}
use Rattle.lists.specs.Total.{total}
use Rattle.class.specs.Class.{class_of}
use Rattle.signature.specs.Signature.{outside, by_differences, signature_of}
use Rattle.share.specs.Cases.{three_kept}
use Rattle.share.specs.Share.{claims, before, met, sum_where, down, keeps}
use Rattle.search.specs.Search.{is_cut, powers, search_of}
use Rattle.walk.specs.Walk.{walk, walk_from}
use Rattle.statements.specs.Rows.{Holds, meaning}
use Rattle.statements.specs.Cases.{cases}

pub cases_hold : Holds cases
unfolding cases meaning signature_of outside by_differences class_of three_kept tabulate keeps down sum_where total met before claims search_of powers is_cut walk_from walk
cases_hold = refl
