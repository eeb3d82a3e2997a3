-- One pass over the cells that moves on the counters of every port whose move changes nothing else, and marks the ports that need the
-- whole step: what the code does with numbers, so that a compiler does it for eight ports at once. A reader of the move needs none of
-- this: `step` is its meaning, `quickly` says which moves only count, and `looked-is` says that the pass agrees with it.
-- Assumes nothing.
use Rattle.std.specs.Prelude.{ℕ, zero, suc, ◌+◌, ◌-◌, ◌*◌, ◌/◌, ◌%◌, ◌^◌, Bool, cond, not, ◌&&◌, ◌||◌, List, length, ◌==◌, nat_le, nat_lt, slice_index}
use Rattle.diagram.specs.Limits.{backoff_ticks, classifying_ticks, detecting_ticks, error_delay_ticks, fault_ticks, no_load_ticks, power_up_ticks}
use Rattle.sizes.specs.Sizes.{most_ports}
use Rattle.lists.specs.Every.{some_below}
use Rattle.lists.specs.Places.{tabulate}
use Rattle.port.specs.declared.form.Counts.{Counts}
use Rattle.cells.specs.Cells.{cells_long, count_cell, counts_of}
use Rattle.cells.specs.Writes.{with_count_cells}
use Rattle.quick.specs.declared.Look.{Look}
use Rattle.quick.specs.declared.FlagsShown.{FlagsShown}

-- ---- what the code does with a port's numbers

-- one more, in 16 bits; a counter of a well-made table does not come near their end
abbrev pub wrapped : ℕ → ℕ
wrapped n = (n + 1) % 2 ^ 16

abbrev pub counted : Bool → ℕ → ℕ
counted goes n = cond goes (wrapped n) n

abbrev pub running : Bool → ℕ → ℕ
running runs n = cond runs (wrapped n) 0

-- what the flags show, of numbers below 64
unfoldable pub signs_by : ℕ → FlagsShown
signs_by flags =
    record {
      detected = (flags % 2 == 1);
      classed = (flags / 2 % 2 == 1);
      settled = (flags / 4 % 2 == 1);
      limiting = (flags / 8 % 2 == 1);
      overload = (flags / 16 % 2 == 1);
      load = nat_le 32 flags;
    }

module _ (k e d : ℕ) (s : FlagsShown) (c : Counts) where
  -- a state's code k, the enable code e, the demand, the signs and the counters
  abbrev key : ℕ
  key = (e * 16 + k) % 2 ^ 16

  abbrev lim : ℕ
  lim = running s.limiting c.limiting

  abbrev ovl : ℕ
  ovl = running s.overload c.overload

  abbrev gone : ℕ
  gone = running (not s.load) c.no_load

  abbrev calmly : Bool
  calmly = nat_lt lim fault_ticks && nat_lt ovl fault_ticks

  abbrev detects : Bool
  detects = (key == 18 && not s.detected) && nat_lt c.detection (detecting_ticks - 1)

  abbrev backs : Bool
  backs = (k == 3 && not (e == 0)) && nat_lt c.backoff (backoff_ticks - 1)

  abbrev classes : Bool
  classes = (key == 20 && not s.classed) && nat_lt c.power_on (classifying_ticks - 1)

  abbrev rises : Bool
  rises = ((key == 21 && not s.settled) && nat_lt c.power_on (power_up_ticks - 1)) && calmly

  abbrev stays : Bool
  stays = (key == 22 && nat_lt gone no_load_ticks) && calmly

  abbrev delays : Bool
  delays = (k == 7 && not (e == 0)) && nat_lt c.error_delay (error_delay_ticks - 1)

  abbrev tests : Bool
  tests = key == 40 && calmly

  abbrev stands : Bool
  stands = (key == 0 && d == 0) || key == 41

  abbrev shut : Bool
  shut = (rises || stays) || tests

  -- one of these moves is the port's
  abbrev pub moves : Bool
  moves = ((shut || detects) || (backs || delays)) || (classes || stands)

  -- the counters after the pass, and a mark where only the whole step tells
  unfoldable pub looked : Look
  looked =
      record {
        counts =
            record {
              detection = counted detects c.detection;
              backoff = counted backs c.backoff;
              error_delay = counted delays c.error_delay;
              power_on = counted (classes || rises) c.power_on;
              limiting = cond shut lim c.limiting;
              overload = cond shut ovl c.overload;
              no_load = cond stays gone c.no_load;
            };
        mark = cond moves 0 65535;
      }

-- ---- the pass over the cells

-- a port's look, by the cells and its flags
unfoldable pub looked_at : ℕ → List ℕ → ℕ → Look
looked_at flags l p = looked (slice_index l (8 + p)) (slice_index l (56 + p) % 4) (slice_index l (104 + p)) (signs_by flags) (counts_of l p)

-- the look at it leaves all to the whole step
unfoldable pub is_marked : ℕ → List ℕ → ℕ → Bool
is_marked flags l p = not ((looked_at flags l p).mark == 0)

-- the cells after the looks at the first n places
unfoldable pub looked_cells : ℕ → List ℕ → List ℕ → List ℕ
looked_cells zero lane l = l
looked_cells (suc n) lane l = with_count_cells n (looked_at (slice_index lane n) l n).counts (looked_cells n lane l)

-- and the lane: a mark for each of them, and what it held for the others
unfoldable pub looked_lane : ℕ → List ℕ → List ℕ → List ℕ
looked_lane n lane l = tabulate most_ports (λ p. cond (nat_lt p n) (looked_at (slice_index lane p) l p).mark (slice_index lane p))

-- as many cells as a table has, a number for each of its places, and no more ports than places
unfoldable pub sweepable : List ℕ → List ℕ → Bool
sweepable l lane = length l == cells_long && (length lane == most_ports && nat_le (count_cell l) most_ports)

unfoldable pub swept_cells : List ℕ → List ℕ → List ℕ
swept_cells l lane = cond (sweepable l lane) (looked_cells (count_cell l) lane l) l

unfoldable pub swept_lane : List ℕ → List ℕ → List ℕ
swept_lane l lane = cond (sweepable l lane) (looked_lane (count_cell l) lane l) lane

-- some port is marked
unfoldable pub swept_left : List ℕ → List ℕ → Bool
swept_left l lane = sweepable l lane && some_below (count_cell l) (λ p. is_marked (slice_index lane p) l p)
