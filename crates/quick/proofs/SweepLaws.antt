-- What is proved of specs/Sweep.
-- Assumes nothing.
use Rattle.std.proofs.Common.{◌≡◌, ℕ, zero, suc, ◌+◌, ◌-◌, ◌*◌, ◌%◌, ◌<◌, ◌≤◌, min, max, Bool, true, false, cond, not, ◌&&◌, ◌||◌, eqb, ltb, leb, List, length, get_or, set, sym, refl, ap, ◌∙◌, ap₂, le_refl, add-one, arith, ltb-false, ltb-true, le-ltb, lt-ltb, eq-eqb, le-leb, leb-false, leb-true, Option, Some, None}
use mathlib.Core.Bool.{or-false}
use borrow.Author.Tests.{lt-leb}
use Rattle.diagram.specs.Limits.{backoff_ticks, classifying_ticks, detecting_ticks, error_delay_ticks, fault_ticks, no_load_ticks, power_up_ticks}
use Rattle.sizes.specs.Sizes.{most_count, most_ports}
use Rattle.lists.specs.Every.{some_below}
use Rattle.lists.specs.Places.{Filled}
use Rattle.lists.proofs.Places.{filled_none, filled_more, filled_below}
use Rattle.lists.proofs.Tests.{and_left, and_right}
use Rattle.power.specs.Power.{tenths, same}
use Rattle.control.specs.declared.Enable.{Enable}
use Rattle.control.specs.declared.Enable.TheVariants.{Disabled as Off, Enabled, Forced, Reserved}
use Rattle.port.specs.Entry.{up, during}
use Rattle.port.specs.Changes.{detection_at, backoff_at, error_delay_at, power_on_at, limiting_at, overload_at, no_load_at}
use Rattle.port.specs.States.{code_of}
use Rattle.port.specs.declared.form.Counts.{Counts}
use Rattle.port.specs.declared.form.State.{State}
use Rattle.port.specs.declared.form.State.TheVariants.{Disabled, Idle, Detecting, Backoff, Classifying, PowerUp, PowerOn, ErrorDelay, TestMode, TestError}
use Rattle.cells.specs.Cells.{cells_long, count_cell, counts_of}
use Rattle.cells.specs.Writes.{with_count_cells, count_fields}
use Rattle.cells.proofs.Writes.{writes_other}
use Rattle.quick.specs.declared.Look.{Look}
use Rattle.quick.specs.declared.FlagsShown.{FlagsShown}
use Rattle.quick.proofs.Quick.{only, stressed_by, calm, quick_detecting, quick_backoff, quick_error_delay, quick_classifying, quick_power_up, quick_power_on, quick_test_mode, quick_in}
use Rattle.quick.specs.Sweep.{wrapped, counted, running, signs_by, moves, looked, looked_at, is_marked, looked_cells, looked_lane, sweepable, swept_left}

-- ---- it is the quick answer

abbrev pub is_counted : Option Counts → Bool
is_counted (Some c) = true
is_counted None = false

-- the counters that a glance leaves
abbrev pub glanced : Option Counts → Counts → Counts
glanced (Some c) d = c
glanced None d = d

abbrev pub shown : Option Counts → Counts → Look
shown g c = record { counts = glanced g c; mark = cond (is_counted g) 0 65535 }

-- the enable that a code below 3 names
abbrev pub enable_no : ℕ → Enable
enable_no zero = Off
enable_no (suc zero) = Enabled
enable_no (suc (suc zero)) = Forced
enable_no (suc (suc (suc n))) = Reserved

-- a counter that has not come to its limit
pub early : (m n : ℕ) → m < most_count → not (leb (m + 1) (up n)) ≡ ltb n m
unfolding up
early m n h = go (ltb n m) refl
  where
    go : (b : Bool) → ltb n m ≡ b → not (leb (m + 1) (min (n + 1) most_count)) ≡ b
    go true q = let x = ltb-true n m q in ap not (lt-leb (m + 1) (min (n + 1) most_count) (omega arith))
    go false q = let x = ltb-false n m q in ap not (le-leb (m + 1) (min (n + 1) most_count) (omega arith))

-- below 2,000 one more is one more
wrapped_up : (n : ℕ) → n < most_count → wrapped n ≡ up n
unfolding up
wrapped_up n h = omega arith

counted_up : (t : Bool) (n : ℕ) → (t ≡ true → n < most_count) → counted t n ≡ cond t (up n) n
counted_up true n h = wrapped_up n (h refl)
counted_up false n h = refl

module _ (m n : ℕ) (small : n ≤ most_count) (some : 1 ≤ m) (most : m ≤ most_count) where
  -- a run of ticks below its limit
  run_below : (b : Bool) → ltb (running b n) m ≡ not (leb m (during b n))
  unfolding during up
  run_below true = go (leb m (min (n + 1) most_count)) refl
    where
      go : (b : Bool) → leb m (min (n + 1) most_count) ≡ b → ltb (wrapped n) m ≡ not b
      go true q = let x = leb-true m (min (n + 1) most_count) q in le-ltb (wrapped n) m (omega arith)
      go false q = let x = leb-false m (min (n + 1) most_count) q in lt-ltb (wrapped n) m (omega arith)
  run_below false = simp (lt-ltb 0 m some, lt-leb m 0 some)

  run_during : (b : Bool) → ltb (running b n) m ≡ true → running b n ≡ during b n
  unfolding during up
  run_during true e = let x = ltb-true (wrapped n) m e in omega arith
  run_during false e = refl

-- the counters that the pass may not find over 2,000: those of consecutive ticks
pub record Small (c : Counts) : Type 0 where
  pub limiting : c.limiting ≤ most_count
  pub overload : c.overload ≤ most_count
  pub no_load : c.no_load ≤ most_count

-- what a move that stays, or does not, shows of one counter and of several
chosen_detection : (t : Bool) (c : Counts) → (t ≡ true → c.detection < most_count) → record { counts = detection_at (counted t c.detection) c; mark = cond t 0 65535 } ≡ shown (only t (detection_at (up c.detection) c)) c
chosen_detection true c h = ap (λ (n : ℕ). shown (Some (detection_at n c)) c) (wrapped_up c.detection (h refl))
chosen_detection false c h = refl

chosen_backoff : (t : Bool) (c : Counts) → (t ≡ true → c.backoff < most_count) → record { counts = backoff_at (counted t c.backoff) c; mark = cond t 0 65535 } ≡ shown (only t (backoff_at (up c.backoff) c)) c
chosen_backoff true c h = ap (λ (n : ℕ). shown (Some (backoff_at n c)) c) (wrapped_up c.backoff (h refl))
chosen_backoff false c h = refl

chosen_delay : (t : Bool) (c : Counts) → (t ≡ true → c.error_delay < most_count) → record { counts = error_delay_at (counted t c.error_delay) c; mark = cond t 0 65535 } ≡ shown (only t (error_delay_at (up c.error_delay) c)) c
chosen_delay true c h = ap (λ (n : ℕ). shown (Some (error_delay_at n c)) c) (wrapped_up c.error_delay (h refl))
chosen_delay false c h = refl

chosen_class : (t : Bool) (c : Counts) → (t ≡ true → c.power_on < most_count) → record { counts = power_on_at (counted t c.power_on) c; mark = cond t 0 65535 } ≡ shown (only t (power_on_at (up c.power_on) c)) c
chosen_class true c h = ap (λ (n : ℕ). shown (Some (power_on_at n c)) c) (wrapped_up c.power_on (h refl))
chosen_class false c h = refl

chosen_same : (t : Bool) (c : Counts) → record { counts = c; mark = cond t 0 65535 } ≡ shown (only t c) c
chosen_same true c = refl
chosen_same false c = refl

module _ (s : FlagsShown) (c : Counts) where
  abbrev lim' : ℕ
  lim' = running s.limiting c.limiting

  abbrev ovl' : ℕ
  ovl' = running s.overload c.overload

  abbrev gone' : ℕ
  gone' = running (not s.load) c.no_load

  abbrev calm' : Bool
  calm' = ltb lim' fault_ticks && ltb ovl' fault_ticks

  module _ (w : Small c) where
    calm_is : calm' ≡ calm (stressed_by s c)
    calm_is = ap₂ ◌&&◌ (run_below fault_ticks c.limiting w.limiting (omega arith) (omega arith) s.limiting) (run_below fault_ticks c.overload w.overload (omega arith) (omega arith) s.overload)

    -- where both runs are below their limit, they are the definition's
    lim_is : calm' ≡ true → lim' ≡ during s.limiting c.limiting
    lim_is e = run_during fault_ticks c.limiting w.limiting (omega arith) (omega arith) s.limiting (and_left (ltb lim' fault_ticks) (ltb ovl' fault_ticks) e)

    ovl_is : calm' ≡ true → ovl' ≡ during s.overload c.overload
    ovl_is e = run_during fault_ticks c.overload w.overload (omega arith) (omega arith) s.overload (and_right (ltb lim' fault_ticks) (ltb ovl' fault_ticks) e)

    chosen_rise : (t : Bool) → (t ≡ true → calm' ≡ true) → (t ≡ true → c.power_on < most_count)
        → record { counts = power_on_at (counted t c.power_on) (limiting_at (cond t lim' c.limiting) (overload_at (cond t ovl' c.overload) c)); mark = cond t 0 65535 } ≡ shown (only t (power_on_at (up c.power_on) (stressed_by s c))) c
    chosen_rise true q h = simp (wrapped_up c.power_on (h refl), lim_is (q refl), ovl_is (q refl))
    chosen_rise false q h = refl

    chosen_stay : (t : Bool) → (t ≡ true → calm' ≡ true) → (t ≡ true → ltb gone' no_load_ticks ≡ true)
        → record { counts = no_load_at (cond t gone' c.no_load) (limiting_at (cond t lim' c.limiting) (overload_at (cond t ovl' c.overload) c)); mark = cond t 0 65535 } ≡ shown (only t (no_load_at (during (not s.load) c.no_load) (stressed_by s c))) c
    chosen_stay true q h =
        simp (lim_is (q refl), ovl_is (q refl), run_during no_load_ticks c.no_load w.no_load (omega arith) (omega arith) (not s.load) (h refl))
    chosen_stay false q h = refl

    chosen_test : (t : Bool) → (t ≡ true → calm' ≡ true)
        → record { counts = limiting_at (cond t lim' c.limiting) (overload_at (cond t ovl' c.overload) c); mark = cond t 0 65535 } ≡ shown (only t (stressed_by s c)) c
    chosen_test true q = simp (lim_is (q refl), ovl_is (q refl))
    chosen_test false q = refl

    below : (n m : ℕ) (a : Bool) → m ≤ most_count → (a && ltb n m) ≡ true → n < most_count
    below n m a h e = let x = ltb-true n m (and_right a (ltb n m) e) in omega arith

    -- state by state and enable by enable
    pub look_is : (st : State) (e : ℕ) (d : ℕ) → e < 3 → looked (code_of st) e d s c ≡ shown (quick_in st (enable_no e) (tenths d) s c) c
    unfolding looked quick_in quick_detecting quick_backoff quick_error_delay quick_classifying quick_power_up quick_power_on quick_test_mode same
    look_is Disabled zero d h = simp or-false (chosen_same (eqb d 0) c)
    look_is Disabled (suc zero) d h = refl
    look_is Disabled (suc (suc zero)) d h = refl
    look_is Idle zero d h = refl
    look_is Idle (suc zero) d h = refl
    look_is Idle (suc (suc zero)) d h = refl
    look_is Detecting zero d h = refl
    look_is Detecting (suc zero) d h =
        simp (or-false, early (detecting_ticks - 1) c.detection (omega arith)) (chosen_detection (not s.detected && ltb c.detection (detecting_ticks - 1)) c (below c.detection (detecting_ticks - 1) (not s.detected) (omega arith)))
    look_is Detecting (suc (suc zero)) d h = refl
    look_is Backoff zero d h = refl
    look_is Backoff (suc zero) d h = simp (or-false, early (backoff_ticks - 1) c.backoff (omega arith)) (chosen_backoff (ltb c.backoff (backoff_ticks - 1)) c (below c.backoff (backoff_ticks - 1) true (omega arith)))
    look_is Backoff (suc (suc zero)) d h = simp (or-false, early (backoff_ticks - 1) c.backoff (omega arith)) (chosen_backoff (ltb c.backoff (backoff_ticks - 1)) c (below c.backoff (backoff_ticks - 1) true (omega arith)))
    look_is Classifying zero d h = refl
    look_is Classifying (suc zero) d h =
        simp (or-false, early (classifying_ticks - 1) c.power_on (omega arith)) (chosen_class (not s.classed && ltb c.power_on (classifying_ticks - 1)) c (below c.power_on (classifying_ticks - 1) (not s.classed) (omega arith)))
    look_is Classifying (suc (suc zero)) d h = refl
    look_is PowerUp zero d h = refl
    look_is PowerUp (suc zero) d h =
        let t = not s.settled && ltb c.power_on (power_up_ticks - 1) in
        simp (or-false, early (power_up_ticks - 1) c.power_on (omega arith), ← calm_is)
        (chosen_rise (t && calm') (and_right t calm') (λ e. below c.power_on (power_up_ticks - 1) (not s.settled) (omega arith) (and_left t calm' e)))
    look_is PowerUp (suc (suc zero)) d h = refl
    look_is PowerOn zero d h = refl
    look_is PowerOn (suc zero) d h =
        simp (or-false, ← run_below no_load_ticks c.no_load w.no_load (omega arith) (omega arith) (not s.load), ← calm_is)
        (chosen_stay (ltb gone' no_load_ticks && calm') (and_right (ltb gone' no_load_ticks) calm') (and_left (ltb gone' no_load_ticks) calm'))
    look_is PowerOn (suc (suc zero)) d h = refl
    look_is ErrorDelay zero d h = refl
    look_is ErrorDelay (suc zero) d h = simp (or-false, early (error_delay_ticks - 1) c.error_delay (omega arith)) (chosen_delay (ltb c.error_delay (error_delay_ticks - 1)) c (below c.error_delay (error_delay_ticks - 1) true (omega arith)))
    look_is ErrorDelay (suc (suc zero)) d h = simp (or-false, early (error_delay_ticks - 1) c.error_delay (omega arith)) (chosen_delay (ltb c.error_delay (error_delay_ticks - 1)) c (below c.error_delay (error_delay_ticks - 1) true (omega arith)))
    look_is TestMode zero d h = refl
    look_is TestMode (suc zero) d h = refl
    look_is TestMode (suc (suc zero)) d h = simp (or-false, ← calm_is) (chosen_test calm' (λ e. e))
    look_is TestError zero d h = refl
    look_is TestError (suc zero) d h = refl
    look_is TestError (suc (suc zero)) d h = refl
    look_is st (suc (suc (suc e))) d h = absurd (omega arith)

module _ (lane l : List ℕ) where
  -- a place whose turn is not yet is as it was
  looked_cell : (n p g : ℕ) → n ≤ p → p < most_ports → get_or (looked_cells n lane l) (8 + most_ports * g + p) 0 ≡ get_or l (8 + most_ports * g + p) 0
  unfolding looked_cells with_count_cells
  looked_cell zero p g h k = refl
  looked_cell (suc n) p g h k =
      writes_other (count_fields (looked_at (get_or lane n 0) l n).counts) 5 n (looked_cells n lane l) (8 + most_ports * g + p) (λ f e m o. omega arith)
      ∙ looked_cell n p g (omega arith) k

  pub looked_turn : (n : ℕ) (flags : ℕ) → n < most_ports → looked_at flags (looked_cells n lane l) n ≡ looked_at flags l n
  unfolding looked_at counts_of
  looked_turn n flags h =
      let at : (g : ℕ) → get_or (looked_cells n lane l) (8 + most_ports * g + n) 0 ≡ get_or l (8 + most_ports * g + n) 0 = λ g. looked_cell n n g (le_refl n) h in
      simp (at 0, at 1, at 2, at 5, at 6, at 7, at 8, at 9, at 10, at 11)

  pub looked_more : (n : ℕ) (m k : List ℕ) → m ≡ looked_cells n lane l → n < most_ports → k ≡ with_count_cells n (looked_at (get_or lane n 0) m n).counts m → k ≡ looked_cells (n + 1) lane l
  unfolding looked_cells
  looked_more n m k e h f =
      f ∙ ap (λ (x : List ℕ). with_count_cells n (looked_at (get_or lane n 0) x n).counts x) e
      ∙ ap (λ (y : Look). with_count_cells n y.counts (looked_cells n lane l)) (looked_turn n (get_or lane n 0) h)
      ∙ ap (λ (j : ℕ). looked_cells j lane l) (sym (add-one n))

-- a mark is all bits or none
abbrev pub all_bits : Bool → ℕ
all_bits t = cond t 65535 0

marked_bits : (t : Bool) → cond t 0 65535 ≡ all_bits (not (eqb (cond t 0 65535) 0))
marked_bits true = refl
marked_bits false = refl

pub mark_bits : (flags : ℕ) (l : List ℕ) (p : ℕ) → (looked_at flags l p).mark ≡ all_bits (is_marked flags l p)
unfolding is_marked looked_at looked
mark_bits flags l p = marked_bits (moves (get_or l (8 + p) 0) (get_or l (56 + p) 0 % 4) (get_or l (104 + p) 0) (signs_by flags) (counts_of l p))

pub bits_joined : (t w : Bool) → max (all_bits t) (all_bits w) ≡ all_bits (t || w)
bits_joined true true = refl
bits_joined true false = refl
bits_joined false true = refl
bits_joined false false = refl

pub bits_some : (t : Bool) → not (eqb (all_bits t) 0) ≡ t
bits_some true = refl
bits_some false = refl

-- ---- the pass, port after port

module _ (lane l : List ℕ) where
  abbrev mark_of : ℕ → ℕ
  mark_of p = (looked_at (get_or lane p 0) l p).mark

  abbrev marked : ℕ → Bool
  marked p = is_marked (get_or lane p 0) l p

  -- the places below p have been looked at, and have their marks; `left` tells by all bits or none whether some port is marked
  pub record Sweeping (p : ℕ) (now : List ℕ) (marks : List ℕ) (left : ℕ) : Type 0 where
    pub seen : now ≡ looked_cells p lane l
    pub laid : Filled 0 mark_of lane p marks
    pub some : left ≡ all_bits (some_below p marked)

  pub swept_none : Sweeping 0 l lane 0
  unfolding looked_cells some_below
  swept_none = record { seen = refl; laid = filled_none _ _ _; some = refl }

  -- the next place: its flags are those that the lane began with
  pub swept_more : (p : ℕ) (now marks : List ℕ) (left mark : ℕ) (then : List ℕ) → Sweeping p now marks left → p < most_ports → length lane ≡ most_ports
      → mark ≡ (looked_at (get_or marks p 0) now p).mark → then ≡ with_count_cells p (looked_at (get_or marks p 0) now p).counts now
      → Sweeping (p + 1) then (set marks p mark) (max left mark)
  unfolding some_below
  swept_more p now marks left mark then s h w e f =
      let flags : get_or marks p 0 ≡ get_or lane p 0 = s.laid.left p (le_refl p) in
      let turn : looked_at (get_or marks p 0) now p ≡ looked_at (get_or lane p 0) l p =
      ap₂ (λ (k : ℕ) (x : List ℕ). looked_at k x p) flags s.seen ∙ looked_turn lane l p (get_or lane p 0) h in
      let m : mark ≡ mark_of p = e ∙ ap (λ (x : Look). x.mark) turn in
      record {
        seen = looked_more lane l p now then s.seen h (rw flags at f);
        laid = filled_more 0 mark_of lane p marks mark s.laid (omega (arith, w)) m;
        some =
            ap₂ max s.some (m ∙ mark_bits (get_or lane p 0) l p) ∙ bits_joined (some_below p marked) (marked p)
            ∙ ap (λ (k : ℕ). all_bits (some_below k marked)) (sym (add-one p));
      }

  pub swept_lane_all : (n : ℕ) (now marks : List ℕ) (left : ℕ) → Sweeping n now marks left → length lane ≡ most_ports → marks ≡ looked_lane n lane l
  unfolding looked_lane
  swept_lane_all n now marks left s w = filled_below 0 mark_of lane most_ports n marks w s.laid

  pub swept_some : (n : ℕ) (now marks : List ℕ) (left : ℕ) → Sweeping n now marks left → not (eqb left 0) ≡ some_below n marked
  swept_some n now marks left s = ap (λ (x : ℕ). not (eqb x 0)) s.some ∙ bits_some (some_below n marked)

-- what is as long as a table and its lane, and of no more ports than places, is looked at
pub swept_left_is : (l lane : List ℕ) → length l ≡ cells_long → length lane ≡ most_ports → count_cell l ≤ most_ports
    → swept_left l lane ≡ some_below (count_cell l) (λ p. is_marked (get_or lane p 0) l p)
unfolding swept_left sweepable
swept_left_is l lane a b h = simp (eq-eqb _ _ a, eq-eqb _ _ b, le-leb _ _ h)
