-- What is proved of specs/Spelled.
-- Assumes nothing.
use Prim.Native.Nat.{ℕ, zero, suc, ◌+◌, ◌/◌, ◌%◌, ◌≤◌, ◌<◌, ◌^◌}
use mathlib.Core.Path.{◌≡◌, refl, sym, ◌∙◌, ap, ap₂}
use mathlib.Core.List.{List, [], ◌∷◌, ◌++◌}
use native.Mathlib.Omega.{arith}
use lib.ListN.{length, take, drop, length-append}
use lib.Seq.{take-append_seam, drop-append_seam, drop-drop}
use Rattle.lists.specs.Bytes.{word_at}
use Rattle.statements.specs.History.{Call, control, status, requested, ticked}
use Rattle.history.specs.Decode.{number_at, call_of, block_long, first_call, calls_from, calls_of}
use Rattle.history.proofs.Running.{record_more, record_none}
use Rattle.history.specs.Spelled.{Bytes}

-- ---- a number, before what follows it

abbrev four : ℕ → List ℕ → List ℕ
four n rest = n / 16777216 ∷ n / 65536 % 256 ∷ n / 256 % 256 ∷ n % 256 ∷ rest

-- ---- a record

abbrev record_of : ℕ → ℕ → ℕ → List ℕ → List ℕ
record_of kind port number block = kind ∷ four port (four number (length block / 256 ∷ length block % 256 ∷ block))

abbrev pub spell : Call → List ℕ
spell (control p w) = record_of 0 p w []
spell (status p) = record_of 1 p 0 []
spell (requested p v) = record_of 2 p v []
spell (ticked block figure) = record_of 3 0 figure block

-- calls in the order in which they are made
abbrev pub spelled : List Call → List ℕ
spelled [] = []
spelled (c ∷ cs) = spell c ++ spelled cs

-- the latest first
abbrev pub turned : List Call → List Call → List Call
turned [] h = h
turned (c ∷ cs) h = turned cs (c ∷ h)

-- ---- read back

four_back : (n : ℕ) (b : List ℕ) → number_at (four n b) 0 ≡ n
unfolding number_at word_at
four_back n b = omega arith

module _ (kind port number : ℕ) (block rest : List ℕ) where
  abbrev b : List ℕ
  b = record_of kind port number block ++ rest

  long_back : block_long b ≡ length block
  unfolding block_long word_at
  long_back = omega (arith, length-append block rest)

  port_back : number_at b 1 ≡ port
  unfolding number_at word_at
  port_back = four_back port []

  number_back : number_at b 5 ≡ number
  unfolding number_at word_at
  number_back = four_back number []

  call_back : first_call b ≡ call_of kind port number block
  unfolding first_call
  call_back =
      ap₂ (λ (x y : ℕ). call_of kind x y (take (block_long b) (drop 11 b))) port_back number_back
      ∙ ap (call_of kind port number) (ap (λ (k : ℕ). take k (block ++ rest)) long_back ∙ take-append_seam block rest)

  rest_back : drop (11 + block_long b) b ≡ rest
  rest_back = sym (drop-drop (block_long b) 11 b) ∙ ap (λ (k : ℕ). drop k (block ++ rest)) long_back ∙ drop-append_seam block rest

  record_back : (most : ℕ) (h : List Call) → calls_from (suc most) b h ≡ calls_from most rest (call_of kind port number block ∷ h)
  record_back most h = record_more most b h (omega arith) ∙ ap₂ (λ (x : List ℕ) (c : Call). calls_from most x (c ∷ h)) rest_back call_back

one_back : (c : Call) (rest : List ℕ) (most : ℕ) (h : List Call) → calls_from (suc most) (spell c ++ rest) h ≡ calls_from most rest (c ∷ h)
unfolding call_of
one_back (control p w) rest most h = record_back 0 p w [] rest most h
one_back (status p) rest most h = record_back 1 p 0 [] rest most h
one_back (requested p v) rest most h = record_back 2 p v [] rest most h
one_back (ticked block figure) rest most h = record_back 3 0 figure block rest most h

all_back : (cs : List Call) (most : ℕ) → length cs ≤ most → (h : List Call) → calls_from most (spelled cs) h ≡ turned cs h
all_back [] most l h = record_none most [] h (omega arith)
all_back (c ∷ cs) zero l h = absurd (let z : ⊥ = omega arith in z)
all_back (c ∷ cs) (suc most) l h = one_back c (spelled cs) most h ∙ all_back cs most (omega arith) (c ∷ h)

spell_long : (c : Call) → 1 ≤ length (spell c)
spell_long (control p w) = omega arith
spell_long (status p) = omega arith
spell_long (requested p v) = omega arith
spell_long (ticked block figure) = omega arith

longer : (cs : List Call) → length cs ≤ length (spelled cs)
longer [] = omega arith
longer (c ∷ cs) = omega (arith, length-append (spell c) (spelled cs), spell_long c, longer cs)

turned_on : (h g e : List Call) → turned (turned h g) e ≡ turned g (h ++ e)
turned_on [] g e = refl
turned_on (c ∷ h) g e = turned_on h (c ∷ g) e

append_nil : (h : List Call) → h ++ [] ≡ h
append_nil [] = refl
append_nil (c ∷ h) = ap (λ (r : List Call). c ∷ r) (append_nil h)

-- a history, the latest call first, is what its records say
pub spelled_back : (h : List Call) → calls_of (spelled (turned h [])) ≡ h
unfolding calls_of
spelled_back h =
    all_back (turned h []) (length (spelled (turned h []))) (longer (turned h [])) []
    ∙ turned_on h [] []
    ∙ append_nil h

-- ---- bytes

-- a call that a record holds: numbers of 32 bits, and a block whose length two bytes say
abbrev pub Fits : Call → Type 0
Fits (control p w) = (p < 2 ^ 32) × (w < 2 ^ 32)
Fits (status p) = p < 2 ^ 32
Fits (requested p v) = (p < 2 ^ 32) × (v < 2 ^ 32)
Fits (ticked block figure) = (length block < 2 ^ 16) × (figure < 2 ^ 32)

-- a tick's block is bytes
abbrev pub OfBytes : Call → Type 0
OfBytes (control p w) = Unit {0}
OfBytes (status p) = Unit {0}
OfBytes (requested p v) = Unit {0}
OfBytes (ticked block figure) = Bytes block

abbrev pub All : (Call → Type 0) → List Call → Type 0
All P [] = Unit {0}
All P (c ∷ h) = P c × All P h

four_bytes : (n : ℕ) (rest : List ℕ) → n < 2 ^ 32 → Bytes rest → Bytes (four n rest)
four_bytes n rest l r = (omega arith, (omega arith, (omega arith, (omega arith, r))))

record_bytes : (kind port number : ℕ) (block : List ℕ) → kind < 256 → port < 2 ^ 32 → number < 2 ^ 32 → length block < 2 ^ 16 → Bytes block → Bytes (record_of kind port number block)
record_bytes kind port number block k p v l r =
    let long = length block / 256 ∷ length block % 256 ∷ block in
    (k, four_bytes port (four number long) p (four_bytes number long v (omega arith, (omega arith, r))))

append_bytes : (l m : List ℕ) → Bytes l → Bytes m → Bytes (l ++ m)
append_bytes [] m x y = y
append_bytes (b ∷ l) m x y = (x.0, append_bytes l m x.1 y)

spell_bytes : (c : Call) → Fits c → OfBytes c → Bytes (spell c)
spell_bytes (control p w) f o = record_bytes 0 p w [] (omega arith) f.0 f.1 (omega arith) tt
spell_bytes (status p) f o = record_bytes 1 p 0 [] (omega arith) f (omega arith) (omega arith) tt
spell_bytes (requested p v) f o = record_bytes 2 p v [] (omega arith) f.0 f.1 (omega arith) tt
spell_bytes (ticked block figure) f o = record_bytes 3 0 figure block (omega arith) (omega arith) f.1 f.0 o

pub spelled_bytes : (cs : List Call) → All Fits cs → All OfBytes cs → Bytes (spelled cs)
spelled_bytes [] f o = tt
spelled_bytes (c ∷ cs) f o = append_bytes (spell c) (spelled cs) (spell_bytes c f.0 o.0) (spelled_bytes cs f.1 o.1)

pub turned_all : (P : Call → Type 0) (h g : List Call) → All P h → All P g → All P (turned h g)
turned_all P [] g x y = y
turned_all P (c ∷ h) g x y = turned_all P h (c ∷ g) x.1 (x.0, y)
