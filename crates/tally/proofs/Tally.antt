-- What is proved of specs/Tally.
-- Assumes nothing.
use Prim.Native.Nat.{ℕ, ◌+◌, ◌*◌, ◌/◌, ◌%◌, ◌≤◌, ◌<◌}
use mathlib.Core.Path.{◌≡◌, refl, sym, ◌∙◌, ap, ap₂}
use mathlib.Core.Bool.{Bool, true, false, cond, ◌&&◌}
use mathlib.Core.List.{List}
use mathlib.Core.Logic.{⊎_elim}
use native.Mathlib.Nat.{add-zero}
use native.Mathlib.Omega.{arith}
use lib.Count.{ones}
use lib.Dec.{eqb, ltb}
use lib.ListN.{length, get_or}
use borrow.Author.Tests.{lt-ltb, le-ltb, le-leb, eqb-true, eq-eqb}
use Rattle.sizes.specs.Sizes.{most_ports}
use Rattle.lists.specs.Bits.{one, place}
use Rattle.lists.proofs.Bits.{one_small}
use Rattle.lists.specs.Count.{mask}
use Rattle.lists.proofs.Count.{mask_below}
use Rattle.lists.proofs.Places.{side, get_d_tabulate, length_tabulate}
use Rattle.lists.specs.Total.{total}
use Rattle.lists.proofs.Total.{total_cong}
use Rattle.control.specs.Control.{pair_of}
use Rattle.control.specs.declared.Pair.{Pair}
use Rattle.control.specs.declared.Pair.TheVariants.{Neither, A, B, Both}
use Rattle.port.specs.States.{closed}
use Rattle.port.specs.declared.form.Port.{Port}
use Rattle.table.specs.Drawn.{closed_at}
use Rattle.table.specs.Parts.{port_at}
use Rattle.table.specs.declared.form.Closed.{Closed}
use Rattle.table.specs.declared.form.Table.{Table}
use Rattle.boards.specs.Masks.{names_a, names_b, mask_a, mask_b, closed_ports}
use Rattle.cells.specs.Cells.{cells_long, port_of}
use Rattle.tally.specs.Tally.{on_a, on_b, side_in, side_of, side_lane, Side, Sided, weighed, is_a, is_b, named, tallied, drawn_on, drawn_in, closed_in, sides_in}

abbrev pub masked : ℕ → ℕ → Closed
masked a b = record { a = a; b = b; number = ones a + ones b }

-- ---- what a side says

sides_of : (c : Bool) (x : Pair) → let v = one (c && names_a x) + 256 * one (c && names_b x) in (Side v) × (eqb v 1 ≡ (c && names_a x)) × (eqb v 256 ≡ (c && names_b x))
sides_of true Neither = (refl, refl, refl)
sides_of true A = (refl, refl, refl)
sides_of true B = (refl, refl, refl)
sides_of true Both = (refl, refl, refl)
sides_of false Neither = (refl, refl, refl)
sides_of false A = (refl, refl, refl)
sides_of false B = (refl, refl, refl)
sides_of false Both = (refl, refl, refl)

pub side_small : (v : ℕ) → Side v → v ≤ 256
side_small v e = go (eqb v 1) refl
  where
    go : (a : Bool) → eqb v 1 ≡ a → v ≤ 256
    go true q = omega (arith, eqb-true v 1 q)
    go false q = let x : v ≡ one false + 256 * one (eqb v 256) = rw q at e in omega (arith, one_small (eqb v 256))

module _ (lane : List ℕ) (p : ℕ) (sided : Sided lane) (h : p ≤ 40) where
  -- the low byte of eight sides is theirs on A, and the high one theirs on B
  weighed_is : weighed lane p ≡ mask 8 (λ j. is_a lane (p + j)) + 256 * mask 8 (λ j. is_b lane (p + j))
  unfolding weighed mask total
  weighed_is =
      let s0 = sided p (omega arith) in
      let s1 = sided (p + 1) (omega arith) in
      let s2 = sided (p + 2) (omega arith) in
      let s3 = sided (p + 3) (omega arith) in
      let s4 = sided (p + 4) (omega arith) in
      let s5 = sided (p + 5) (omega arith) in
      let s6 = sided (p + 6) (omega arith) in
      let s7 = sided (p + 7) (omega arith) in
      rw add-zero (omega arith)

  pub weighed_low : weighed lane p % 256 ≡ mask 8 (λ j. is_a lane (p + j))
  weighed_low = omega (arith, weighed_is, mask_below 8 (λ j. is_a lane (p + j)))

  pub weighed_high : weighed lane p / 256 ≡ mask 8 (λ j. is_b lane (p + j))
  weighed_high = omega (arith, weighed_is, mask_below 8 (λ j. is_a lane (p + j)))

module _ (n : ℕ) (l : List ℕ) where
  -- ---- the lane that a pass leaves

  lane_within : (p : ℕ) → p < most_ports → p < n → get_or (side_lane n l) p 0 ≡ side_of (port_of l p)
  unfolding side_lane
  lane_within p h x = get_d_tabulate most_ports (λ q. cond (ltb q n) (side_of (port_of l q)) 0) 0 p h ∙ ap (λ (t : Bool). cond t (side_of (port_of l p)) 0) (lt-ltb p n x)

  lane_past : (p : ℕ) → p < most_ports → n ≤ p → get_or (side_lane n l) p 0 ≡ 0
  unfolding side_lane
  lane_past p h x = get_d_tabulate most_ports (λ q. cond (ltb q n) (side_of (port_of l q)) 0) 0 p h ∙ ap (λ (t : Bool). cond t (side_of (port_of l p)) 0) (le-ltb p n x)

  -- it has sides alone
  pub side_lane_sided : Sided (side_lane n l)
  unfolding side_in
  side_lane_sided p h =
      ⊎_elim
      (λ (x : p < n). rw (lane_within p h x) (sides_of (closed (port_of l p).state) (pair_of (port_of l p).control)).0)
      (λ (x : n ≤ p). rw (lane_past p h x) refl)
      (side p n)

  -- and its masks are those of the table with these ports
  module _ (T : Table) (counted : T.count ≡ n) (same : (p : ℕ) → p < n → port_of l p ≡ port_at T p) where
    pub side_lane_a : mask most_ports (λ p. eqb (get_or (side_lane n l) p 0) 1) ≡ mask_a T
    unfolding mask mask_a closed_at side_in
    side_lane_a =
        total_cong most_ports (λ p. place p (is_a (side_lane n l) p)) (λ p. place p (closed_at T p && names_a (pair_of (port_at T p).control)))
        (λ p h.
        ap (place p)
        (⊎_elim
        (λ (x : p < n).
        ap (λ (v : ℕ). eqb v 1) (lane_within p h x) ∙ (sides_of (closed (port_of l p).state) (pair_of (port_of l p).control)).1
        ∙ ap (λ (q : Port). on_a q.state q.control) (same p x)
        ∙ sym (ap (λ (t : Bool). (t && closed (port_at T p).state) && names_a (pair_of (port_at T p).control)) (lt-ltb p T.count (omega (arith, counted)))))
        (λ (x : n ≤ p).
        ap (λ (v : ℕ). eqb v 1) (lane_past p h x)
        ∙ sym (ap (λ (t : Bool). (t && closed (port_at T p).state) && names_a (pair_of (port_at T p).control)) (le-ltb p T.count (omega (arith, counted)))))
        (side p n)))

    pub side_lane_b : mask most_ports (λ p. eqb (get_or (side_lane n l) p 0) 256) ≡ mask_b T
    unfolding mask mask_b closed_at side_in
    side_lane_b =
        total_cong most_ports (λ p. place p (is_b (side_lane n l) p)) (λ p. place p (closed_at T p && names_b (pair_of (port_at T p).control)))
        (λ p h.
        ap (place p)
        (⊎_elim
        (λ (x : p < n).
        ap (λ (v : ℕ). eqb v 256) (lane_within p h x) ∙ (sides_of (closed (port_of l p).state) (pair_of (port_of l p).control)).2
        ∙ ap (λ (q : Port). on_b q.state q.control) (same p x)
        ∙ sym (ap (λ (t : Bool). (t && closed (port_at T p).state) && names_b (pair_of (port_at T p).control)) (lt-ltb p T.count (omega (arith, counted)))))
        (λ (x : n ≤ p).
        ap (λ (v : ℕ). eqb v 256) (lane_past p h x)
        ∙ sym (ap (λ (t : Bool). (t && closed (port_at T p).state) && names_b (pair_of (port_at T p).control)) (le-ltb p T.count (omega (arith, counted)))))
        (side p n)))

    -- so they are what a tick answers of it
    pub side_lane_answer : named (side_lane n l) ≡ closed_ports T
    unfolding named
    side_lane_answer = ap₂ (λ (x y : ℕ). masked x y) side_lane_a side_lane_b

module _ (n : ℕ) (l : List ℕ) (few : n ≤ most_ports) (long : length l ≡ cells_long) where
  -- ---- where the cells are a table of so many ports
  tallies : tallied n l ≡ true
  unfolding tallied
  tallies = simp (eq-eqb _ _ long, le-leb n most_ports few)

  pub drawn_in_lem : drawn_in n l ≡ drawn_on n l
  unfolding drawn_in
  drawn_in_lem = simp tallies

  module _ (lane : List ℕ) (wide : length lane ≡ most_ports) where
    pub closed_in_lem : closed_in n l lane ≡ named (side_lane n l)
    unfolding closed_in
    closed_in_lem = simp (tallies, eq-eqb _ _ wide)

    pub sides_in_lem : sides_in n l lane ≡ side_lane n l
    unfolding sides_in
    sides_in_lem = simp (tallies, eq-eqb _ _ wide)

pub side_lane_long : (n : ℕ) (l : List ℕ) → length (side_lane n l) ≡ most_ports
unfolding side_lane
side_lane_long n l = length_tabulate most_ports _
