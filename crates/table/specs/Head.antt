-- A well-made table by the tests that the code makes, and in two parts, as the tick makes them. A reader needs none of this: `well_made`
-- is the meaning.
-- Assumes nothing.
use Rattle.std.specs.Prelude.{ℕ, Bool, ◌&&◌, leb}
use Rattle.sizes.specs.Sizes.{most_count, most_ports}
use Rattle.power.specs.Power.{at_most, highest_supply}
use Rattle.power.specs.declared.Power.{Power}
use Rattle.port.specs.declared.form.Counts.{Counts}

-- no counter is over 2,000
unfoldable pub well_counts : Counts → Bool
well_counts c =
    leb c.detection most_count && (leb c.backoff most_count && (leb c.error_delay most_count && (leb c.power_on most_count
    && (leb c.limiting most_count && (leb c.overload most_count && leb c.no_load most_count)))))

-- what a well-made table has beside its ports
unfoldable pub well_head : ℕ → Power → Bool
well_head count supply = (leb 1 count && leb count most_ports) && at_most supply highest_supply
