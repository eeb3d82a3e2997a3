-- What is proved of specs/Means.
-- Assumes nothing.
use Prim.Native.Nat.{ℕ, ◌+◌, ◌≤◌, ◌<◌}
use mathlib.Core.Path.{◌≡◌, refl, sym, ◌∙◌, ap₂}
use mathlib.Core.Bool.{Bool, true, false, cond, not, ◌&&◌, ◌||◌}
use mathlib.Core.List.{List}
use native.Mathlib.Omega.{arith}
use lib.Dec.{leb, ltb, eqb}
use lib.ListN.{get_or}
use borrow.Author.Tests.{ltb-true, lt-ltb, le-ltb, leb-true, le-leb, eqb-true}
use Rattle.lists.proofs.Every.{every_at}
use Rattle.lists.proofs.Tests.{and_left, and_right}
use Rattle.lists.specs.Total.{total}
use Rattle.lists.proofs.Total.{total_cong, total_less}
use Rattle.port.specs.States.{closed, is_idle, in_test}
use Rattle.table.specs.Drawn.{closed_at, draws, closed_sum}
use Rattle.table.specs.Parts.{port_at}
use Rattle.table.specs.declared.form.Table.{Table}
use Rattle.interface.specs.Laws.{Are}
use Rattle.statements.specs.History.{Shown, nothing, signature, both}
use Rattle.marks.specs.Mark.{mark_of}
use Rattle.history.proofs.States.{test_cell, demand_cell}
use Rattle.history.specs.declared.TickAnswer.{TickAnswer}
use Rattle.third_tests.specs.Answers.{closed_in, none_lost_in, demands_in, all_shown_in, sound_in}
use Rattle.third_tests.specs.Means.{Holds}

-- the answer names the closed ports
abbrev pub Names : TickAnswer → Table → Type 0
Names x t = (p : ℕ) → p < 48 → closed_in x p ≡ closed_at t p

below : (t : Table) (p : ℕ) → closed_at t p ≡ true → p < t.count
unfolding closed_at
below t p e = ltb-true p t.count (and_left (ltb p t.count) (closed (port_at t p).state) e)

-- the sum of 48 places is that of the ports
sum_is : (t : Table) → t.count ≤ 48 → total 48 (λ p. cond (closed_at t p) (port_at t p).demand.0 0) ≡ closed_sum t
unfolding closed_sum closed_at draws
sum_is t few =
    total_less t.count 48 (λ p. cond (closed_at t p) (port_at t p).demand.0 0) few (λ p l. simp (le-ltb p t.count l))
    ∙ total_cong t.count (λ p. cond (closed_at t p) (port_at t p).demand.0 0) (λ p. draws (port_at t p)) (λ p l. simp (lt-ltb p t.count l))

-- what the answer says that a place draws
abbrev pub drawn_at : List ℕ → TickAnswer → ℕ → ℕ
drawn_at l x p = cond (closed_in x p) (get_or l (104 + p) 0) 0

-- only who has shown both is marked so
mark_both : (i : Bool) (y : Shown) → mark_of i y ≡ 3 → y ≡ both
mark_both true y e = absurd (omega arith)
mark_both false nothing e = absurd (omega arith)
mark_both false signature e = absurd (omega arith)
mark_both false both e = refl

-- three tests of which the first fails
third_holds : (c i m : Bool) → c ≡ true → i ≡ false → ((not c || i) || m) ≡ true → m ≡ true
third_holds c i m e f g = simp (e, f) at g

-- "no more than that figure": what is closed may draw all of it, so that a stricter test is refused here
pub all_of_it : (l marks : List ℕ) (x : TickAnswer) → x.number ≡ 0 → all_shown_in l marks x ≡ true → sound_in l marks x (demands_in l x) ≡ true
unfolding sound_in
all_of_it l marks x n s = simp (n, le-leb (demands_in l x) (demands_in l x) (omega arith), s)

module _ (t : Table) (l : List ℕ) (x : TickAnswer) (are : Are t l) (few : t.count ≤ 48) (names : Names x t) where
  pub sum_says : demands_in l x ≡ closed_sum t
  unfolding demands_in
  sum_says = total_cong 48 _ _ (λ p h. ap₂ (λ (b : Bool) (d : ℕ). cond b d 0) (names p h) (sym (demand_cell t l are p h))) ∙ sum_is t few

  module _ (marks : List ℕ) (account : ℕ → Shown) (marked : (p : ℕ) → p < 48 → get_or marks p 0 ≡ mark_of (is_idle (port_at t p).state) (account p)) where
    shown_says : all_shown_in l marks x ≡ true → (p : ℕ) → closed_at t p ≡ true → in_test (port_at t p).state ≡ false → account p ≡ both
    unfolding all_shown_in
    shown_says e p c i =
        let h : p < 48 = omega (arith, below t p c) in
        mark_both (is_idle (port_at t p).state) (account p)
        (sym (marked p h)
        ∙ eqb-true (get_or marks p 0) 3 (third_holds (closed_in x p) (eqb (get_or l (8 + p) 0) 8) _ (names p h ∙ c) (sym (test_cell t l are p h) ∙ i) (every_at 48 _ e p h)))

    pub sound_means : (figure : ℕ) → sound_in l marks x figure ≡ true → (x.number ≡ 0) × Holds t figure account
    unfolding sound_in
    sound_means figure e =
        let first = and_left (eqb x.number 0 && leb (demands_in l x) figure) (all_shown_in l marks x) e in
        let sum : demands_in l x ≤ figure = leb-true (demands_in l x) figure (and_right (eqb x.number 0) (leb (demands_in l x) figure) first) in (
          eqb-true x.number 0 (and_left (eqb x.number 0) (leb (demands_in l x) figure) first),
          record { fits = omega (arith, sum_says); shows = shown_says (and_right (eqb x.number 0 && leb (demands_in l x) figure) (all_shown_in l marks x) e) },
        )

-- "Every port closed under the smaller figure is closed under the greater."
pub lost_means : (t u : Table) (x y : TickAnswer) → t.count ≤ 48 → Names x t → Names y u → none_lost_in x y ≡ true → (p : ℕ) → closed_at t p ≡ true → closed_at u p ≡ true
unfolding none_lost_in
lost_means t u x y few names named e p c =
    let h : p < 48 = omega (arith, below t p c) in
    sym (named p h) ∙ second (closed_in x p) (closed_in y p) (names p h ∙ c) (every_at 48 _ e p h)
  where
    second : (a b : Bool) → a ≡ true → (not a || b) ≡ true → b ≡ true
    second a b f g = simp f at g
