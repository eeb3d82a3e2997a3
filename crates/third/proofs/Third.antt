-- The third demand, of what the program looks at.
-- Assumes nothing.
use Prim.Native.Nat.{ℕ, ◌+◌, ◌*◌, ◌≤◌, ◌<◌}
use mathlib.Core.Path.{◌≡◌, refl, sym, ◌∙◌, ap, ap₂, subst}
use mathlib.Core.Bool.{Bool, true, false, not, ◌&&◌, ◌||◌, false≢true}
use mathlib.Core.List.{List, [], ◌∷◌}
use native.Mathlib.Omega.{arith}
use lib.Dec.{ltb, eqb}
use lib.ListN.{length, get_or}
use borrow.Author.Tests.{ltb-true, le-ltb, le-leb, lt-leb, eq-eqb, eqb-true, not-true}
use Rattle.lists.specs.Bytes.{word_at}
use Rattle.lists.specs.Bits.{above}
use Rattle.lists.specs.Every.{some_below}
use Rattle.lists.proofs.Every.{every_at, every_of, nowhere}
use Rattle.lists.proofs.Tests.{and_left, and_right}
use Rattle.sample.specs.Sample.{sample_at, reserved_flags}
use Rattle.table.specs.Drawn.{closed_at}
use Rattle.table.proofs.Laws.{well_count}
use Rattle.table.specs.WellMade.{ill_made, well_made}
use Rattle.table.specs.declared.form.Closed.{Closed}
use Rattle.table.specs.declared.form.Table.{Table}
use Rattle.std.specs.Prelude.{Result, Ok, Err}
use Rattle.sizes.specs.declared.refusals.Refusal.{Refusal}
use Rattle.table.specs.Parts.{Told}
use Rattle.boards.proofs.MaskLaws.{closed_bits}
use Rattle.boards.specs.Masks.{answered}
use Rattle.passes.specs.OnCells.{tick_on}
use Rattle.passes.specs.Tick.{flags_reserved, tick}
use Rattle.interface.specs.Laws.{Are}
use Rattle.ipaqsuni.specs.Outcome.{number_of}
use Rattle.statements.specs.History.{Call, ticked, after, reached, accepted, both, shown}
use Rattle.statements.proofs.Reached.{reached_well, call_count, cold_table_lem, cold_count}
use Rattle.statements.proofs.Statement2.{statement_2}
use Rattle.statements.specs.Statement3.{Third}
use Rattle.statements.proofs.Statement3.{statement_3, closed_has_shown}
use Rattle.history.specs.Lent.{answer_of, cells_after, ran_on, cells_reached}
use Rattle.history.proofs.LentLaws.{cells_reached_lem, tick_reached}
use Rattle.history.proofs.MarkLaws.{both_mark}
use Rattle.history.specs.Marks.{noted_all, marks_reached}
use Rattle.history.proofs.States.{test_cell}
use Rattle.history.specs.declared.TickAnswer.{TickAnswer}
use Rattle.third_tests.specs.Answers.{closed_in, none_lost_in, demands_in, all_shown_in, sound_in}
use Rattle.third_tests.specs.Asks.{flags_clear, Asked}
use Rattle.third_tests.proofs.Means.{sum_says}

-- ---- a tick that the arguments ask for is accepted

reached_count : (n : ℕ) → 1 ≤ n → n ≤ 48 → (h : List Call) → (reached n h).count ≡ n
unfolding reached
reached_count n a b [] = ap (λ (t : Table). t.count) (cold_table_lem n a b) ∙ cold_count n
reached_count n a b (c ∷ h) = call_count (reached n h) c ∙ reached_count n a b h

clear_flags : (block : List ℕ) (p : ℕ) → (eqb (get_or block (14 * p + 12) 0) 0 && ltb (get_or block (14 * p + 13) 0) 64) ≡ true
    → not (reserved_flags (sample_at block (14 * p)).flags) ≡ true
unfolding reserved_flags sample_at word_at above
clear_flags block p e =
    let h : get_or block (14 * p + 12) 0 ≡ 0 = eqb-true _ _ (and_left (eqb (get_or block (14 * p + 12) 0) 0) _ e) in
    let q : 14 * p + 13 ≡ 14 * p + 12 + 1 = omega arith in
    let l : get_or block (14 * p + 12 + 1) 0 < 64 = subst (λ (j : ℕ). get_or block j 0 < 64) q (ltb-true _ _ (and_right (eqb (get_or block (14 * p + 12) 0) 0) _ e)) in
    ap not (lt-leb 64 (256 * get_or block (14 * p + 12) 0 + get_or block (14 * p + 12 + 1) 0) (omega arith))

no_flags : (n : ℕ) (block : List ℕ) → flags_clear n block ≡ true → some_below n (λ p. reserved_flags (sample_at block (14 * p)).flags) ≡ false
unfolding flags_clear
no_flags n block c = not-true _ (nowhere n _ ∙ every_of n _ (λ p l. clear_flags block p (every_at n _ c p l)))

-- a figure in range, and a block with fourteen bytes a port and no reserved flag
pub record Fit (n : ℕ) (block : List ℕ) (figure : ℕ) : Type 0 where
  pub one : 1 ≤ n
  pub most : n ≤ 48
  pub range : figure ≤ 60000
  pub whole : length block ≡ 14 * n
  pub clear : flags_clear n block ≡ true

accepts : (n : ℕ) (h : List Call) (block : List ℕ) (figure : ℕ) → Fit n block figure → accepted (tick (reached n h) block figure).answer ≡ true
unfolding tick answered flags_reserved well_made
accepts n h block figure f =
    let k = reached_count n f.one f.most h in
    let well : ill_made (reached n h) ≡ false = not-true _ (reached_well n f.one f.most h) in
    let long : eqb (length block) (14 * (reached n h).count) ≡ true = eq-eqb _ _ (f.whole ∙ ap (λ (m : ℕ). 14 * m) (sym k)) in
    let flags : some_below (reached n h).count (λ p. reserved_flags (sample_at block (14 * p)).flags) ≡ false =
    subst (λ (m : ℕ). some_below m (λ p. reserved_flags (sample_at block (14 * p)).flags) ≡ false) (sym k) (no_flags n block f.clear) in
    simp (well, long, le-ltb 60000 figure f.range, flags)

-- ---- one tick of what a history reaches

number_zero : (c : Result Closed Refusal) → accepted c ≡ true → number_of c ≡ 0
number_zero (Ok x) e = refl
number_zero (Err k) e = absurd (false≢true e)

module _ (n : ℕ) (h : List Call) (block : List ℕ) (figure : ℕ) (f : Fit n block figure) where
  abbrev g : List Call
  g = ticked block figure ∷ h

  abbrev x : TickAnswer
  x = answer_of (tick_on (cells_reached n h) block figure).answer

  answer_is : (tick_on (cells_reached n h) block figure).answer ≡ (tick (reached n h) block figure).answer
  answer_is = ap (λ (r : Told (Result Closed Refusal)). r.answer) (tick_reached n f.one f.most h block figure)

  runs : accepted (tick (reached n h) block figure).answer ≡ true
  runs = accepts n h block figure f

  -- the masks say what is closed
  closed_is : (p : ℕ) → p < 48 → closed_in x p ≡ closed_at (reached n g) p
  unfolding reached after
  closed_is p l =
      ap (λ (c : Result Closed Refusal). closed_in (answer_of c) p) (answer_is ∙ (statement_2.ticks (reached n h) block figure runs).answers)
      ∙ closed_bits (reached n g) (reached_well n f.one f.most g) p l

  are : Are (reached n g) (cells_reached n g)
  are = cells_reached_lem n f.one f.most g

  third : Third n h block figure figure
  third = statement_3 n f.one f.most h block figure figure (omega arith) runs runs

  fits : demands_in (cells_reached n g) x ≤ figure
  unfolding reached after
  fits = omega (arith, sum_says (reached n g) (cells_reached n g) x are (well_count (reached n g) (reached_well n f.one f.most g)) closed_is, third.fits_less)

  shows : all_shown_in (cells_reached n g) (marks_reached n g) x ≡ true
  unfolding all_shown_in
  shows = every_of 48 _ (λ p l. go p l (closed_in x p) (eqb (get_or (cells_reached n g) (8 + p) 0) 8) refl refl)
    where
      go : (p : ℕ) → p < 48 → (c i : Bool) → closed_in x p ≡ c → eqb (get_or (cells_reached n g) (8 + p) 0) 8 ≡ i → ((not c || i) || eqb (get_or (marks_reached n g) p 0) 3) ≡ true
      go p l false i e q = refl
      go p l true true e q = refl
      go p l true false e q =
          let c : closed_at (reached n g) p ≡ true = sym (closed_is p l) ∙ e in
          let s : shown n p g ≡ both = closed_has_shown n f.one f.most g p c (test_cell (reached n g) (cells_reached n g) are p l ∙ q) in
          eq-eqb _ _ (both_mark n f.one f.most g p l s)

  pub is_sound : sound_in (cells_reached n g) (marks_reached n g) x figure ≡ true
  unfolding sound_in
  is_sound =
      let zero = number_zero (tick_on (cells_reached n h) block figure).answer (ap accepted answer_is ∙ runs) in
      ap₂ ◌&&◌ (ap₂ ◌&&◌ (eq-eqb x.number 0 zero) (le-leb _ _ fits)) shows

-- ---- and two

implies : (a b : Bool) → (a ≡ true → b ≡ true) → (not a || b) ≡ true
implies true b h = h refl
implies false b h = refl

module _ (n : ℕ) (block : List ℕ) (less more : ℕ) (a : Asked n block less more) where
  pub small : Fit n block less
  small = record { one = a.one; most = a.most; range = omega (arith, a.le, a.range); whole = a.whole; clear = a.clear }

  pub great : Fit n block more
  great = record { one = a.one; most = a.most; range = a.range; whole = a.whole; clear = a.clear }

  pub loses_none : (h : List Call) → none_lost_in (answer_of (tick_on (cells_reached n h) block less).answer) (answer_of (tick_on (cells_reached n h) block more).answer) ≡ true
  unfolding none_lost_in reached after
  loses_none h =
      let t = statement_3 n a.one a.most h block less more a.le (accepts n h block less small) (accepts n h block more great) in
      every_of 48 _ (λ p l. implies _ _ (λ e. closed_is n h block more great p l ∙ t.closes_more p (sym (closed_is n h block less small p l) ∙ e)))

-- what the program has in hand after the tick on one figure
module _ (n : ℕ) (h : List Call) (block : List ℕ) (figure : ℕ) (from fromMarks cells marks : List ℕ) (x : TickAnswer)
    (e : from ≡ cells_reached n h)
    (m : fromMarks ≡ marks_reached n h)
    (c : cells ≡ cells_after from (ticked block figure))
    (k : marks ≡ noted_all cells (ran_on from (ticked block figure)) block fromMarks)
    (r : x ≡ answer_of (tick_on from block figure).answer) where
  pub answer_in : x ≡ answer_of (tick_on (cells_reached n h) block figure).answer
  answer_in = r ∙ ap (λ (l : List ℕ). answer_of (tick_on l block figure).answer) e

  cells_in : cells ≡ cells_reached n (ticked block figure ∷ h)
  unfolding cells_reached
  cells_in = c ∙ ap (λ (l : List ℕ). cells_after l (ticked block figure)) e

  marks_in : marks ≡ marks_reached n (ticked block figure ∷ h)
  unfolding marks_reached
  marks_in =
      k
      ∙ ap₂ (λ (u l : List ℕ). noted_all u (ran_on l (ticked block figure)) block fromMarks) cells_in e
      ∙ ap (noted_all (cells_reached n (ticked block figure ∷ h)) (ran_on (cells_reached n h) (ticked block figure)) block) m

  pub sound_in_lem : Fit n block figure → sound_in cells marks x figure ≡ true
  sound_in_lem f =
      ap₂ (λ (u l : List ℕ). sound_in u l x figure) cells_in marks_in
      ∙ ap (λ (y : TickAnswer). sound_in (cells_reached n (ticked block figure ∷ h)) (marks_reached n (ticked block figure ∷ h)) y figure) answer_in
      ∙ is_sound n h block figure f
