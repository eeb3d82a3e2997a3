-- A tick that runs on a block of any numbers: on some bytes it does the same. Each port's sample is replaced by one that shows the same
-- signature, class and flags.
-- Assumes nothing.
use Prim.Native.Nat.{ℕ, zero, suc, ◌+◌, ◌*◌, ◌/◌, ◌%◌, ◌≤◌, ◌<◌}
use mathlib.Core.Path.{◌≡◌, refl, sym, ◌∙◌, ap, ap₂}
use mathlib.Core.Bool.{true, cond, not, ◌&&◌, false≢true}
use mathlib.Core.List.{List, [], ◌∷◌}
use mathlib.Core.Logic.{⊎_elim}
use native.Mathlib.Omega.{arith}
use lib.Dec.{eqb, ltb}
use lib.ListN.{length, get_or, get_or-eq_default}
use borrow.Author.Tests.{eqb-true, leb-true, leb-false, ltb-false, not-true, not-false}
use Rattle.lists.specs.Bytes.{word_at}
use Rattle.lists.specs.Bits.{above}
use Rattle.lists.specs.Every.{some_below}
use Rattle.lists.proofs.Every.{every_at, nowhere}
use Rattle.lists.specs.Ladder.{ladder, Clear}
use Rattle.lists.proofs.Ladder.{ladder_holds}
use Rattle.lists.specs.Places.{tabulate}
use Rattle.lists.proofs.Places.{side, length_tabulate, get_d_tabulate}
use Rattle.lists.proofs.Tests.{choice}
use Rattle.power.specs.Power.{forced, tenths}
use Rattle.class.specs.Class.{class_of, is_four, class_of_two}
use Rattle.class.proofs.Laws.{at_most_four, class_of_two_at_most_four}
use Rattle.sample.specs.Sample.{sample_at, reserved_flags, flags_of}
use Rattle.signature.specs.Signature.{outside, signature_of}
use Rattle.class.specs.declared.Failure.{Failure}
use Rattle.class.specs.declared.Failure.TheVariants.{OverCurrent, Disagree}
use Rattle.sample.specs.declared.Sample.{Sample}
use Rattle.signature.specs.declared.Signature.{Signature}
use Rattle.signature.specs.declared.Signature.TheVariants.{Valid, Invalid, Open}
use Rattle.port.specs.States.{is_idle}
use Rattle.port.specs.declared.form.Classing.TheVariants.{NotDone as NotClassed}
use Rattle.port.specs.declared.form.Detection.TheVariants.{NotDone}
use Rattle.port.specs.declared.form.Reading.{Reading}
use Rattle.diagram.specs.Step.{step}
use Rattle.boards.specs.Masks.{answered}
use Rattle.boards.specs.Sharing.{table_after}
use Rattle.table.specs.Parts.{Told, port_at, refuse}
use Rattle.table.specs.WellMade.{ill_made}
use Rattle.table.specs.declared.form.Table.{Table}
use Rattle.table.specs.declared.form.Closed.{Closed}
use Rattle.std.specs.Prelude.{Result, Ok, Err}
use Rattle.sizes.specs.declared.refusals.Refusal.{Refusal}
use Rattle.block.specs.Digest.{detection_of, classing_of, digest}
use Rattle.passes.specs.Tick.{moved_at, flags_reserved, tick_refusals, tick}
use Rattle.statements.specs.History.{ticked, accepted, is_valid, is_class, shows_signature, gives_class, Shown, nothing, signature, both, seen, adds}
use Rattle.history.specs.Spelled.{Bytes}

-- ---- numbers that show a signature, and a class

abbrev v2_of : Signature → ℕ
v2_of Valid = 6000
v2_of Invalid = 4000
v2_of Open = 9000

abbrev i2_of : Signature → ℕ
i2_of Valid = 100
i2_of Invalid = 100
i2_of Open = 0

signature_back : (s : Signature) → signature_of 4000 (v2_of s) 0 (i2_of s) ≡ s
unfolding signature_of outside
signature_back Valid = refl
signature_back Invalid = refl
signature_back Open = refl

abbrev c1_of : Result ℕ Failure → ℕ
c1_of (Ok k) = get_or (5000 ∷ 13000 ∷ 21000 ∷ 31000 ∷ 45000 ∷ []) k 0
c1_of (Err OverCurrent) = 65535
c1_of (Err Disagree) = 45000

abbrev c2_of : Result ℕ Failure → ℕ
c2_of (Ok k) = 45000
c2_of (Err OverCurrent) = 45000
c2_of (Err Disagree) = 0

class_back : (x : Result ℕ Failure) → at_most_four x ≡ true → (class_of_two (c1_of x) (c2_of x)).shown ≡ x
unfolding class_of_two class_of is_four
class_back (Ok zero) e = refl
class_back (Ok (suc zero)) e = refl
class_back (Ok (suc (suc zero))) e = refl
class_back (Ok (suc (suc (suc zero)))) e = refl
class_back (Ok (suc (suc (suc (suc zero))))) e = refl
class_back (Ok (suc (suc (suc (suc (suc k)))))) e = absurd (omega (arith, leb-true (suc (suc (suc (suc (suc k))))) 4 e))
class_back (Err OverCurrent) e = refl
class_back (Err Disagree) e = refl

-- ---- the sample that shows what s shows

abbrev signature_in : Sample → Signature
signature_in s = signature_of s.v1 s.v2 s.i1 s.i2

abbrev class_in : Sample → Result ℕ Failure
class_in s = (class_of_two s.c1 s.c2).shown

unfoldable plain : Sample → Sample
plain s = record { v1 = 4000; v2 = v2_of (signature_in s); i1 = 0; i2 = i2_of (signature_in s); c1 = c1_of (class_in s); c2 = c2_of (class_in s); flags = s.flags }

module _ (s : Sample) where
  plain_signature : signature_in (plain s) ≡ signature_in s
  unfolding plain
  plain_signature = signature_back (signature_in s)

  plain_class : class_in (plain s) ≡ class_in s
  unfolding plain
  plain_class = class_back (class_in s) (class_of_two_at_most_four s.c1 s.c2)

  plain_flags : (plain s).flags ≡ s.flags
  unfolding plain
  plain_flags = refl

-- two samples that show the same
record Alike (s r : Sample) : Type 0 where
  signature_is : signature_in s ≡ signature_in r
  class_is : class_in s ≡ class_in r
  flags_are : s.flags ≡ r.flags

module _ (s r : Sample) (a : Alike s r) where
  alike_digest : digest s ≡ digest r
  unfolding digest
  alike_digest =
      λ k.
      record {
        detection = cond (flags_of (a.flags_are k)).detection_done (detection_of (a.signature_is k)) NotDone;
        class = cond (flags_of (a.flags_are k)).class_done (classing_of (a.class_is k)) NotClassed;
        settled = (flags_of (a.flags_are k)).settled;
        limiting = (flags_of (a.flags_are k)).limiting;
        overload = (flags_of (a.flags_are k)).overload;
        load = (flags_of (a.flags_are k)).load;
      }

  alike_seen : (x : Shown) → seen s x ≡ seen r x
  unfolding seen shows_signature gives_class
  alike_seen nothing = λ k. cond ((flags_of (a.flags_are k)).detection_done && is_valid (a.signature_is k)) signature nothing
  alike_seen signature = λ k. cond ((flags_of (a.flags_are k)).class_done && is_class (a.class_is k)) both signature
  alike_seen both = refl

-- ---- its bytes

all_bytes : (n : ℕ) (f : ℕ → ℕ) → ((k : ℕ) → k < n → f k < 256) → Bytes (tabulate n f)
unfolding tabulate
all_bytes zero f h = tt
all_bytes (suc n) f h = (h 0 (omega arith), all_bytes n (λ k. f (suc k)) (λ k l. h (suc k) (omega arith)))

abbrev words_of : Sample → List ℕ
words_of s = s.v1 ∷ s.v2 ∷ s.i1 ∷ s.i2 ∷ s.c1 ∷ s.c2 ∷ s.flags ∷ []

abbrev byte_of : Sample → ℕ → ℕ
byte_of s k = cond (eqb (k % 2) 0) (get_or (words_of s) (k / 2) 0 / 256) (get_or (words_of s) (k / 2) 0 % 256)

unfoldable plain_block : ℕ → List ℕ → List ℕ
plain_block n block = tabulate (14 * n) (λ k. byte_of (plain (sample_at block (14 * (k / 14)))) (k % 14))

module _ (n : ℕ) (block : List ℕ) where
  plain_long : length (plain_block n block) ≡ 14 * n
  unfolding plain_block
  plain_long = length_tabulate (14 * n) _

  module _ (p : ℕ) (h : p < n) where
    plain_byte : (i : ℕ) → i < 14 → get_or (plain_block n block) (14 * p + i) 0 ≡ byte_of (plain (sample_at block (14 * p))) i
    unfolding plain_block
    plain_byte i l =
        let d : (14 * p + i) / 14 ≡ p = omega arith in
        let m : (14 * p + i) % 14 ≡ i = omega arith in
        get_d_tabulate (14 * n) _ 0 (14 * p + i) (omega arith)
        ∙ ap₂ (λ (q j : ℕ). byte_of (plain (sample_at block (14 * q))) j) d m

    plain_word : (j w : ℕ) → j < 7 → byte_of (plain (sample_at block (14 * p))) (2 * j) ≡ w / 256 → byte_of (plain (sample_at block (14 * p))) (2 * j + 1) ≡ w % 256
        → word_at (plain_block n block) (14 * p + 2 * j) ≡ w
    unfolding word_at
    plain_word j w l e f =
        let q : 14 * p + 2 * j + 1 ≡ 14 * p + (2 * j + 1) = omega arith in
        omega (arith, plain_byte (2 * j) (omega arith), ap (λ (k : ℕ). get_or (plain_block n block) k 0) q, plain_byte (2 * j + 1) (omega arith), e, f)

    plain_sample : sample_at (plain_block n block) (14 * p) ≡ plain (sample_at block (14 * p))
    unfolding sample_at
    plain_sample =
        let q : 14 * p ≡ 14 * p + 0 = omega arith in
        λ k.
        record {
          v1 = (ap (word_at (plain_block n block)) q ∙ plain_word 0 _ (omega arith) refl refl) k;
          v2 = plain_word 1 _ (omega arith) refl refl k;
          i1 = plain_word 2 _ (omega arith) refl refl k;
          i2 = plain_word 3 _ (omega arith) refl refl k;
          c1 = plain_word 4 _ (omega arith) refl refl k;
          c2 = plain_word 5 _ (omega arith) refl refl k;
          flags = plain_word 6 _ (omega arith) refl refl k;
        }

  -- past the ports both blocks have nothing
  module _ (whole : length block ≡ 14 * n) (p : ℕ) (h : n ≤ p) where
    past_word : (i : ℕ) → word_at (plain_block n block) (14 * p + i) ≡ word_at block (14 * p + i)
    unfolding word_at
    past_word i =
        let none : (l : List ℕ) → length l ≡ 14 * n → (k : ℕ) → 14 * p ≤ k → get_or l k 0 ≡ 0 = λ l e k g. get_or-eq_default l 0 (omega arith) in
        ap₂ (λ (x y : ℕ). 256 * x + y)
        (none (plain_block n block) plain_long (14 * p + i) (omega arith) ∙ sym (none block whole (14 * p + i) (omega arith)))
        (none (plain_block n block) plain_long (14 * p + i + 1) (omega arith) ∙ sym (none block whole (14 * p + i + 1) (omega arith)))

    past_sample : sample_at (plain_block n block) (14 * p) ≡ sample_at block (14 * p)
    unfolding sample_at
    past_sample =
        let q : 14 * p ≡ 14 * p + 0 = omega arith in
        λ k.
        record {
          v1 = (ap (word_at (plain_block n block)) q ∙ past_word 0 ∙ ap (word_at block) (sym q)) k;
          v2 = past_word 2 k;
          i1 = past_word 4 k;
          i2 = past_word 6 k;
          c1 = past_word 8 k;
          c2 = past_word 10 k;
          flags = past_word 12 k;
        }

  alike : length block ≡ 14 * n → (p : ℕ) → Alike (sample_at (plain_block n block) (14 * p)) (sample_at block (14 * p))
  alike whole p =
      ⊎_elim
      (λ (h : p < n).
      let s = sample_at block (14 * p) in
      rw (plain_sample p h) (record { signature_is = plain_signature s; class_is = plain_class s; flags_are = plain_flags s }))
      (λ (h : n ≤ p). rw (past_sample whole p h) (record { signature_is = refl; class_is = refl; flags_are = refl }))
      (side p n)

  -- they are bytes, where no flag is over 16 bits
  word_small : (s : Sample) → s.flags < 65536 → (j : ℕ) → get_or (words_of (plain s)) j 0 < 65536
  unfolding plain
  word_small s f zero = omega arith
  word_small s f (suc zero) = small (signature_in s)
    where
      small : (x : Signature) → v2_of x < 65536
      small Valid = omega arith
      small Invalid = omega arith
      small Open = omega arith
  word_small s f (suc (suc zero)) = omega arith
  word_small s f (suc (suc (suc zero))) = small (signature_in s)
    where
      small : (x : Signature) → i2_of x < 65536
      small Valid = omega arith
      small Invalid = omega arith
      small Open = omega arith
  word_small s f (suc (suc (suc (suc zero)))) = small (class_in s)
    where
      small : (x : Result ℕ Failure) → c1_of x < 65536
      small (Ok zero) = omega arith
      small (Ok (suc zero)) = omega arith
      small (Ok (suc (suc zero))) = omega arith
      small (Ok (suc (suc (suc zero)))) = omega arith
      small (Ok (suc (suc (suc (suc zero))))) = omega arith
      small (Ok (suc (suc (suc (suc (suc k)))))) = omega arith
      small (Err OverCurrent) = omega arith
      small (Err Disagree) = omega arith
  word_small s f (suc (suc (suc (suc (suc zero))))) = small (class_in s)
    where
      small : (x : Result ℕ Failure) → c2_of x < 65536
      small (Ok k) = omega arith
      small (Err OverCurrent) = omega arith
      small (Err Disagree) = omega arith
  word_small s f (suc (suc (suc (suc (suc (suc zero)))))) = f
  word_small s f (suc (suc (suc (suc (suc (suc (suc j))))))) = omega arith

  plain_bytes : ((p : ℕ) → p < n → (sample_at block (14 * p)).flags < 65536) → Bytes (plain_block n block)
  unfolding plain_block
  plain_bytes f =
      all_bytes (14 * n) _
      (λ k h.
      let s = sample_at block (14 * (k / 14)) in
      let w = word_small s (f (k / 14) (omega arith)) (k % 14 / 2) in
      choice (λ (x : ℕ). x < 256) (eqb (k % 14 % 2) 0) _ _ (omega (arith, w)) (omega arith))

-- ---- a tick that runs

module _ (t : Table) (block : List ℕ) (figure : ℕ) where
  abbrev b : List ℕ
  b = plain_block t.count block

  clear : accepted (tick t block figure).answer ≡ true → Clear (tick_refusals t block figure)
  unfolding tick refuse
  clear =
      ladder_holds (λ (r : Told (Result Closed Refusal)). accepted r.answer ≡ true → Clear (tick_refusals t block figure)) (λ k. refuse k t) _ (tick_refusals t block figure)
      (λ k e. absurd (false≢true e))
      (λ c e. c)

  -- what the tick looks at of a block
  by : ℕ → (ℕ → ℕ) → (ℕ → Reading) → Told (Result Closed Refusal)
  by long flags readings =
      ladder ((13, ill_made t) ∷ (1, not (eqb long (14 * t.count))) ∷ (4, ltb 60000 figure) ∷ (3, some_below t.count (λ p. reserved_flags (flags p))) ∷ [])
      (λ k. refuse k t)
      (answered (table_after t (λ p. step forced (port_at t p) (readings p)) (tenths figure)))

  module _ (whole : length block ≡ 14 * t.count) where
    same_tick : tick t b figure ≡ tick t block figure
    unfolding tick flags_reserved moved_at by
    same_tick =
        λ k.
        by ((plain_long t.count block ∙ sym whole) k)
        (λ p. (alike t.count block whole p).flags_are k)
        (λ p. alike_digest _ _ (alike t.count block whole p) k)

    same_adds : (p : ℕ) (x : Shown) → adds t p (ticked b figure) x ≡ adds t p (ticked block figure) x
    unfolding adds
    same_adds p x =
        ap₂ (λ (r : Told (Result Closed Refusal)) (y : Shown). cond (accepted r.answer) (cond (is_idle (port_at t p).state) x y) x) same_tick (alike_seen _ _ (alike t.count block whole p) x)

-- a block of bytes, with what it does
pub record Plain (t : Table) (block : List ℕ) (figure : ℕ) : Type 0 where
  pub bytes : List ℕ
  pub are_bytes : Bytes bytes
  pub long : length bytes ≡ 14 * t.count
  pub range : figure ≤ 60000
  pub same : tick t bytes figure ≡ tick t block figure
  pub adds_same : (p : ℕ) (x : Shown) → adds t p (ticked bytes figure) x ≡ adds t p (ticked block figure) x

pub plain_tick : (t : Table) (block : List ℕ) (figure : ℕ) → accepted (tick t block figure).answer ≡ true → Plain t block figure
unfolding flags_reserved reserved_flags above
plain_tick t block figure e =
    let c = clear t block figure e in
    let whole = eqb-true (length block) (14 * t.count) (not-false _ c.1.0) in
    let none = sym (nowhere t.count (λ p. reserved_flags (sample_at block (14 * p)).flags)) ∙ ap not c.1.1.1.0 in
    record {
      bytes = plain_block t.count block;
      are_bytes = plain_bytes t.count block (λ p h. omega (arith, leb-false 64 (sample_at block (14 * p)).flags (not-true _ (every_at t.count _ none p h))));
      long = plain_long t.count block;
      range = ltb-false 60000 figure c.1.1.0;
      same = same_tick t block figure whole;
      adds_same = same_adds t block figure whole;
    }
