-- `shows_signature` is that of the sample. Assumes nothing.
use Rattle.std.proofs.Common.{◌≡◌, ℕ, ◌%◌, ◌&&◌, eqb, ◌∙◌, ap, ap₂}
use native.Mathlib.Nat.{div-one}
use Rattle.lists.specs.Bits.{bit}
use Rattle.sample.specs.Sample.{sample_at, flags_of}
use Rattle.signature.specs.Signature.{signature_of}
use Rattle.statements.specs.History.{is_valid, shows_signature}
use Rattle.marks.proofs.shows_signature.Goals as goal

lowest : (n : ℕ) → eqb (n % 2) 1 ≡ bit 0 n
unfolding bit
lowest n = simp div-one

valid_of : (v1 v2 i1 i2 w1 w2 j1 j2 : ℕ) → v1 ≡ w1 → v2 ≡ w2 → i1 ≡ j1 → i2 ≡ j2 → is_valid (signature_of v1 v2 i1 i2) ≡ is_valid (signature_of w1 w2 j1 j2)
valid_of v1 v2 i1 i2 w1 w2 j1 j2 a b c d = ap₂ (λ (x y : ℕ). is_valid (signature_of x y i1 i2)) a b ∙ ap₂ (λ (x y : ℕ). is_valid (signature_of w1 w2 x y)) c d

pub returns : goal.returns
unfolding shows_signature sample_at flags_of
returns c =
    ap₂ ◌&&◌ (ap (λ (n : ℕ). eqb (n % 2) 1) c.word_at.ensures.0 ∙ lowest _)
    (c.is_valid.ensures ∙ valid_of _ _ _ _ _ _ _ _ c.word_at-2.ensures.0 c.word_at-3.ensures.0 c.word_at-4.ensures.0 c.word_at-5.ensures.0)
