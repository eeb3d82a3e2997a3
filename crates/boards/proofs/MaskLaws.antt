-- What the masks say: each bit, and that the number which a tick answers is the number of closed ports.
-- Assumes nothing.
use Prim.Native.Nat.{ℕ, ◌+◌, ◌≤◌, ◌<◌}
use mathlib.Core.Path.{◌≡◌, refl, ◌∙◌, ap, ap₂}
use mathlib.Core.Bool.{Bool, true, false, not, ◌&&◌, ◌||◌}
use lib.Count.{ones}
use lib.Dec.{ltb, eqb}
use borrow.Author.Tests.{ltb-true, eqb-true, not-false}
use Rattle.sizes.specs.Sizes.{most_ports}
use Rattle.lists.specs.Bits.{bit, field, above, one, choose}
use Rattle.lists.specs.Count.{count}
use Rattle.lists.proofs.Count.{ones_mask, count_either, bit_mask, bit_past}
use Rattle.lists.proofs.Tests.{and_left, fails_right}
use Rattle.lists.proofs.Total.{total_cong}
use Rattle.control.specs.Control.{refused, pair_of}
use Rattle.control.specs.declared.Pair.{Pair}
use Rattle.control.specs.declared.Pair.TheVariants.{Neither, A, B, Both}
use Rattle.port.specs.States.{closed}
use Rattle.table.specs.Drawn.{closed_at}
use Rattle.table.specs.Parts.{port_at}
use Rattle.table.proofs.WellMadePorts.{WellTable, table_of}
use Rattle.table.specs.WellMade.{well_made}
use Rattle.table.specs.declared.form.Table.{Table}
use Rattle.boards.specs.Masks.{names_a, names_b, mask_a, mask_b}

-- ---- each bit
pub bits_a : (u : Table) (p : ℕ) → p < most_ports → bit p (mask_a u) ≡ (closed_at u p && names_a (pair_of (port_at u p).control))
unfolding mask_a
bits_a u p l = bit_mask most_ports (λ q. closed_at u q && names_a (pair_of (port_at u q).control)) p l

pub bits_b : (u : Table) (p : ℕ) → p < most_ports → bit p (mask_b u) ≡ (closed_at u p && names_b (pair_of (port_at u p).control))
unfolding mask_b
bits_b u p l = bit_mask most_ports (λ q. closed_at u q && names_b (pair_of (port_at u q).control)) p l

pub past_a : (u : Table) (p : ℕ) → most_ports ≤ p → bit p (mask_a u) ≡ false
unfolding mask_a
past_a u p l = bit_past most_ports (λ q. closed_at u q && names_a (pair_of (port_at u q).control)) p l

pub past_b : (u : Table) (p : ℕ) → most_ports ≤ p → bit p (mask_b u) ≡ false
unfolding mask_b
past_b u p l = bit_past most_ports (λ q. closed_at u q && names_b (pair_of (port_at u q).control)) p l

-- ---- the number of closed ports
named : (n : ℕ) → (eqb n 1 || eqb n 2) ≡ true → (names_a (choose Neither A B Both n) || names_b (choose Neither A B Both n)) ≡ true
named n e = go (eqb n 1) refl e
  where
    go : (t : Bool) → eqb n 1 ≡ t → (t || eqb n 2) ≡ true → (names_a (choose Neither A B Both n) || names_b (choose Neither A B Both n)) ≡ true
    go true q r = rw (eqb-true n 1 q)
    go false q r = rw (eqb-true n 2 r)

-- a word that a write takes names A or B
names_one : (w : ℕ) → refused w ≡ false → (names_a (pair_of w) || names_b (pair_of w)) ≡ true
unfolding refused pair_of
names_one w e =
    let n = field 2 2 w in
    let both = eqb n 1 || eqb n 2 in
    named n (not-false both (fails_right (eqb (field 0 2 w) 3) (not both) (fails_right (above 6 w) (eqb (field 0 2 w) 3 || not both) e)))

-- and never both
names_apart : (x : Pair) → (names_a x && names_b x) ≡ false
names_apart Neither = refl
names_apart A = refl
names_apart B = refl
names_apart Both = refl

-- a closed port of a well-made table names A or B
closed_names : (t : Table) → WellTable t → (p : ℕ) → closed_at t p ≡ true → (names_a (pair_of (port_at t p).control) || names_b (pair_of (port_at t p).control)) ≡ true
unfolding closed_at
closed_names t w p e = names_one (port_at t p).control (w.ports p (ltb-true p t.count (and_left (ltb p t.count) (closed (port_at t p).state) e))).control

-- four tests on one place
apart : (c a b : Bool) → (a && b) ≡ false → ((c && a) && (c && b)) ≡ false
apart true a b e = e
apart false a b e = refl

either : (c a b : Bool) → (c ≡ true → (a || b) ≡ true) → ((c && a) || (c && b)) ≡ c
either true a b h = h refl
either false a b h = refl

-- a bit of the one mask or the other is set exactly where a place is closed
pub closed_bits : (t : Table) → well_made t ≡ true → (p : ℕ) → p < most_ports → (bit p (mask_a t) || bit p (mask_b t)) ≡ closed_at t p
closed_bits t e p l =
    ap₂ ◌||◌ (bits_a t p l) (bits_b t p l)
    ∙ either (closed_at t p) (names_a (pair_of (port_at t p).control)) (names_b (pair_of (port_at t p).control)) (closed_names t (table_of t e) p)

-- "a number of closed ports equal to the ones in the two masks": it is the number of ports in closed states
pub closed_number_lem : (t : Table) → well_made t ≡ true → ones (mask_a t) + ones (mask_b t) ≡ count most_ports (closed_at t)
unfolding mask_a mask_b count
closed_number_lem t e =
    let w = table_of t e in
    let a : ℕ → Bool = λ p. names_a (pair_of (port_at t p).control) in
    let b : ℕ → Bool = λ p. names_b (pair_of (port_at t p).control) in
    ap₂ ◌+◌ (ones_mask most_ports (λ p. closed_at t p && a p)) (ones_mask most_ports (λ p. closed_at t p && b p))
    ∙ count_either most_ports (λ p. closed_at t p && a p) (λ p. closed_at t p && b p) (λ p. apart (closed_at t p) (a p) (b p) (names_apart (pair_of (port_at t p).control)))
    ∙ total_cong most_ports (λ p. one ((closed_at t p && a p) || (closed_at t p && b p))) (λ p. one (closed_at t p))
    (λ p l. ap one (either (closed_at t p) (a p) (b p) (closed_names t w p)))
