-- The control word both ways: it is its three fields.
-- Assumes nothing.
use Prim.Native.Nat.{ℕ, zero, suc, ◌/◌, ◌%◌, ◌<◌}
use mathlib.Core.Path.{◌≡◌, refl, sym, ◌∙◌, ap}
use mathlib.Core.Bool.{Bool, true, false, ◌||◌, not, false≢true}
use native.Mathlib.Omega.{arith}
use lib.Dec.{eqb, leb}
use borrow.Author.Tests.{leb-false}
use Rattle.lists.specs.Bits.{field, above, choose}
use Rattle.control.specs.Control.{enable_code, pair_code, priority_code, enable_of, pair_of, priority_of, control_of, word_of, refused}
use Rattle.control.specs.declared.Enable.{Enable}
use Rattle.control.specs.declared.Enable.TheVariants.{Disabled, Enabled, Forced, Reserved}
use Rattle.control.specs.declared.Pair.{Pair}
use Rattle.control.specs.declared.Pair.TheVariants.{Neither, A, B, Both}
use Rattle.control.specs.declared.Priority.{Priority}
use Rattle.control.specs.declared.Priority.TheVariants.{Unknown, Critical, High, Low}
use Rattle.control.specs.declared.Control.{Control}

enable_small : (e : Enable) → enable_code e < 4
enable_small Disabled = omega arith
enable_small Enabled = omega arith
enable_small Forced = omega arith
enable_small Reserved = omega arith

pair_small : (p : Pair) → pair_code p < 4
pair_small Neither = omega arith
pair_small A = omega arith
pair_small B = omega arith
pair_small Both = omega arith

priority_small : (p : Priority) → priority_code p < 4
priority_small Unknown = omega arith
priority_small Critical = omega arith
priority_small High = omega arith
priority_small Low = omega arith

-- the code of each field, where the word has it
enable_field : (c : Control) → field 0 2 (word_of c) ≡ enable_code c.enable
unfolding word_of field
enable_field c = omega (arith, enable_small c.enable)

pair_field : (c : Control) → field 2 2 (word_of c) ≡ pair_code c.pair
unfolding word_of field
pair_field c = omega (arith, enable_small c.enable, pair_small c.pair)

priority_field : (c : Control) → field 4 2 (word_of c) ≡ priority_code c.priority
unfolding word_of field
priority_field c = omega (arith, enable_small c.enable, pair_small c.pair, priority_small c.priority)

-- each code chooses its own case
enable_chosen : (e : Enable) → choose Disabled Enabled Forced Reserved (enable_code e) ≡ e
enable_chosen Disabled = refl
enable_chosen Enabled = refl
enable_chosen Forced = refl
enable_chosen Reserved = refl

pair_chosen : (p : Pair) → choose Neither A B Both (pair_code p) ≡ p
pair_chosen Neither = refl
pair_chosen A = refl
pair_chosen B = refl
pair_chosen Both = refl

priority_chosen : (p : Priority) → choose Unknown Critical High Low (priority_code p) ≡ p
priority_chosen Unknown = refl
priority_chosen Critical = refl
priority_chosen High = refl
priority_chosen Low = refl

enable_back : (c : Control) → enable_of (word_of c) ≡ c.enable
unfolding enable_of
enable_back c = ap (choose Disabled Enabled Forced Reserved) (enable_field c) ∙ enable_chosen c.enable

pair_back : (c : Control) → pair_of (word_of c) ≡ c.pair
unfolding pair_of
pair_back c = ap (choose Neither A B Both) (pair_field c) ∙ pair_chosen c.pair

priority_back : (c : Control) → priority_of (word_of c) ≡ c.priority
unfolding priority_of
priority_back c = ap (choose Unknown Critical High Low) (priority_field c) ∙ priority_chosen c.priority

-- three fields written as a word read back as they were
pub fields_read_back : (c : Control) → control_of (word_of c) ≡ c
unfolding control_of
fields_read_back c = λ i. record { enable = enable_back c i; pair = pair_back c i; priority = priority_back c i }

-- what two bits choose has their code
chosen_code : {X : Type 0} (code : X → ℕ) (x0 x1 x2 x3 : X) → code x0 ≡ 0 → code x1 ≡ 1 → code x2 ≡ 2 → code x3 ≡ 3 → (n : ℕ) → n < 4 → code (choose x0 x1 x2 x3 n) ≡ n
chosen_code code x0 x1 x2 x3 p q r s zero h = p
chosen_code code x0 x1 x2 x3 p q r s (suc zero) h = q
chosen_code code x0 x1 x2 x3 p q r s (suc (suc zero)) h = r
chosen_code code x0 x1 x2 x3 p q r s (suc (suc (suc zero))) h = s
chosen_code code x0 x1 x2 x3 p q r s (suc (suc (suc (suc n)))) h = absurd (omega arith)

-- a word with nothing above bit 5 is the word of its three fields
pub word_reads_back : (word : ℕ) → word < 64 → word_of (control_of word) ≡ word
unfolding word_of control_of enable_of pair_of priority_of field
word_reads_back w h =
    omega (
      arith,
      chosen_code enable_code Disabled Enabled Forced Reserved refl refl refl refl (w / 1 % 4) (omega arith),
      chosen_code pair_code Neither A B Both refl refl refl refl (w / 4 % 4) (omega arith),
      chosen_code priority_code Unknown Critical High Low refl refl refl refl (w / 16 % 4) (omega arith),
    )

-- a word that a write takes has nothing above bit 5
pub taken_small : (word : ℕ) → refused word ≡ false → word < 64
unfolding refused above
taken_small w e = go (leb 64 w) refl e
  where
    go : (t : Bool) → leb 64 w ≡ t → (t || (eqb (field 0 2 w) 3 || not (eqb (field 2 2 w) 1 || eqb (field 2 2 w) 2))) ≡ false → w < 64
    go true q r = absurd (false≢true (sym r))
    go false q r = leb-false 64 w q
