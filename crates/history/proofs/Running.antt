-- The calls of the records below a place are made, and the records from there on are still to be run.
-- Assumes nothing.
use Prim.Native.Nat.{ℕ, zero, suc, ◌+◌, ◌*◌, ◌-◌, ◌≤◌, ◌<◌, min}
use mathlib.Core.Path.{◌≡◌, refl, sym, ◌∙◌, ap, ap₂}
use mathlib.Core.Bool.{Bool}
use mathlib.Core.List.{List, [], ◌∷◌}
use native.Mathlib.Omega.{arith}
use lib.Dec.{eqb}
use lib.ListN.{length, get_or, take, drop, replicate, length-drop}
use lib.Seq.{get_or-drop, drop-drop}
use borrow.Author.Tests.{le-leb, lt-leb}
use Rattle.lists.specs.Bytes.{word_at}
use Rattle.lists.proofs.Tests.{choice}
use Rattle.statements.specs.History.{Call, control, status, requested, ticked}
use Rattle.history.specs.Decode.{of_words, number_at, call_of, block_long, first_call, calls_from, calls_of}
use Rattle.history.specs.Lent.{cells_after, ran_on, cells_started, cells_reached}
use Rattle.marks.specs.Mark.{noted_mark}
use Rattle.history.specs.Marks.{noted_all, block_of, marks_reached}

-- ---- numbers further on

word_drop : (at : ℕ) (b : List ℕ) (k : ℕ) → word_at (drop at b) k ≡ word_at b (at + k)
unfolding word_at
word_drop at b k =
    let e : at + (k + 1) ≡ at + k + 1 = omega arith in
    ap₂ (λ (x y : ℕ). 256 * x + y) (get_or-drop at b k 0) (get_or-drop at b (k + 1) 0 ∙ ap (λ (j : ℕ). get_or b j 0) e)

number_drop : (at : ℕ) (b : List ℕ) (k : ℕ) → number_at (drop at b) k ≡ number_at b (at + k)
unfolding number_at
number_drop at b k =
    let e : at + (k + 2) ≡ at + k + 2 = omega arith in
    ap₂ of_words (word_drop at b k) (word_drop at b (k + 2) ∙ ap (word_at b) e)

-- ---- one record more, and none

pub record_more : (most : ℕ) (b : List ℕ) (h : List Call) → 11 ≤ length b → calls_from (suc most) b h ≡ calls_from most (drop (11 + block_long b) b) (first_call b ∷ h)
unfolding calls_from
record_more most b h l = simp (le-leb 11 (length b) l)

pub record_none : (most : ℕ) (b : List ℕ) (h : List Call) → length b < 11 → calls_from most b h ≡ h
unfolding calls_from
record_none zero b h l = refl
record_none (suc most) b h l = simp (lt-leb 11 (length b) l)

-- the marks, by what is known of the call
pub noted_as : (l block marks x : List ℕ) (a b : Bool) → x ≡ noted_all l a block marks → a ≡ b → x ≡ noted_all l b block marks
noted_as l block marks x a b e f = e ∙ ap (λ (t : Bool). noted_all l t block marks) f

-- a call that is no tick brings no bytes that count
block_counts : (l u marks block : List ℕ) (kind port number : ℕ)
    → noted_all u (ran_on l (call_of kind port number block)) block marks
    ≡ noted_all u (ran_on l (call_of kind port number block)) (block_of (call_of kind port number block)) marks
unfolding noted_all noted_mark ran_on call_of
block_counts l u marks block kind port number =
    let Same : Call → Type 0 = λ c. noted_all u (ran_on l c) block marks ≡ noted_all u (ran_on l c) (block_of c) marks in
    choice Same (eqb kind 0) (control port number) _ refl
    (choice Same (eqb kind 1) (status port) _ refl
    (choice Same (eqb kind 2) (requested port number) (ticked block number) refl refl))

-- ---- the bytes below `at` are run

pub record Decoded (n : ℕ) (history : List ℕ) (at : ℕ) (cells marks : List ℕ) : Type 0 where
  pub calls : List Call
  pub cells_are : cells ≡ cells_reached n calls
  pub marks_are : marks ≡ marks_reached n calls
  pub most : ℕ
  pub enough : length history ≤ at + most
  pub rest : calls_from most (drop at history) calls ≡ calls_of history

module _ (n : ℕ) (history : List ℕ) where
  pub decoded_cold : (cells marks : List ℕ) → cells ≡ cells_started n → marks ≡ replicate 48 1 → Decoded n history 0 cells marks
  unfolding calls_of cells_reached marks_reached
  decoded_cold cells marks e f =
      record { calls = []; cells_are = e; marks_are = f; most = length history; enough = omega arith; rest = refl }

  module _ (at : ℕ) (cells marks : List ℕ) (d : Decoded n history at cells marks) where
    pub decoded_all : length history - at < 11 → (cells ≡ cells_reached n (calls_of history)) × (marks ≡ marks_reached n (calls_of history))
    decoded_all l =
        let e : d.calls ≡ calls_of history = sym (record_none d.most (drop at history) d.calls (omega (arith, length-drop at history))) ∙ d.rest in
        (d.cells_are ∙ ap (cells_reached n) e, d.marks_are ∙ ap (marks_reached n) e)

    module _ (port number end : ℕ)
        (long : 11 ≤ length history - at)
        (p : port ≡ number_at history (at + 1))
        (v : number ≡ number_at history (at + 5))
        (e : end ≡ at + 11 + min (word_at history (at + 9)) (length history - (at + 11))) where
      abbrev block : List ℕ
      block = take (end - (at + 11)) (drop (at + 11) history)

      abbrev made : Call
      made = call_of (get_or history at 0) port number block

      b : List ℕ
      b = drop at history

      long_is : block_long b ≡ end - (at + 11)
      unfolding block_long b
      long_is = omega (arith, e, word_drop at history 9, length-drop at history)

      dropped : drop (11 + block_long b) b ≡ drop end history
      unfolding b
      dropped =
          let q : at + (11 + block_long b) ≡ end = omega (arith, e, long_is) in
          drop-drop (11 + block_long b) at history ∙ ap (λ (j : ℕ). drop j history) q

      made_is : first_call b ≡ made
      unfolding first_call b
      made_is =
          let q : at + 0 ≡ at = omega arith in
          ap₂ (λ (k x : ℕ). call_of k x (number_at b 5) (take (block_long b) (drop 11 b))) (get_or-drop at history 0 0 ∙ ap (λ (j : ℕ). get_or history j 0) q) (number_drop at history 1 ∙ sym p)
          ∙ ap₂ (call_of (get_or history at 0) port) (number_drop at history 5 ∙ sym v) (ap₂ (λ (k : ℕ) (l : List ℕ). take k l) long_is (drop-drop 11 at history))

      pub decoded_more : (then thenMarks : List ℕ) → then ≡ cells_after cells made → thenMarks ≡ noted_all then (ran_on cells made) block marks → Decoded n history end then thenMarks
      unfolding cells_reached marks_reached b
      decoded_more then thenMarks f g = go d.most d.enough d.rest
        where
          go : (most : ℕ) → length history ≤ at + most → calls_from most (drop at history) d.calls ≡ calls_of history → Decoded n history end then thenMarks
          go zero l r = absurd (let z : ⊥ = omega arith in z)
          go (suc most) l r =
              record {
                calls = made ∷ d.calls;
                cells_are = f ∙ ap (λ (c : List ℕ). cells_after c made) d.cells_are;
                marks_are =
                    g ∙ block_counts cells then marks block (get_or history at 0) port number
                    ∙ ap₂ (λ (x y : List ℕ). noted_all x (ran_on y made) (block_of made) marks) (f ∙ ap (λ (c : List ℕ). cells_after c made) d.cells_are) d.cells_are
                    ∙ ap (noted_all (cells_after (cells_reached n d.calls) made) (ran_on (cells_reached n d.calls) made) (block_of made)) d.marks_are;
                most = most;
                enough = omega (arith, e);
                rest =
                    ap₂ (λ (x : List ℕ) (c : Call). calls_from most x (c ∷ d.calls)) (sym dropped) (sym made_is)
                    ∙ sym (record_more most (drop at history) d.calls (omega (arith, length-drop at history)))
                    ∙ r;
              }
