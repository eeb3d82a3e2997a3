-- What is proved of specs/Mark: a mark says what the port has shown.
-- Assumes nothing.
use Prim.Native.Nat.{ℕ, ◌*◌}
use mathlib.Core.Path.{◌≡◌, refl, sym, ap}
use mathlib.Core.Bool.{Bool, true, false, cond}
use mathlib.Core.List.{List}
use lib.Dec.{eqb}
use Rattle.lists.proofs.Tests.{choice_on}
use Rattle.sample.specs.Sample.{sample_at}
use Rattle.statements.specs.History.{shows_signature, gives_class, Shown, nothing, signature, both, seen}
use Rattle.marks.specs.Mark.{seen_mark, noted_mark, mark_of}

seen_mark_lem : (block : List ℕ) (p : ℕ) (x : Shown) → seen_mark block p (mark_of false x) ≡ mark_of false (seen (sample_at block (14 * p)) x)
unfolding seen_mark seen
seen_mark_lem block p nothing = choice_on (λ (z : Shown). cond (shows_signature (sample_at block (14 * p))) 2 1 ≡ mark_of false z) (shows_signature (sample_at block (14 * p))) signature nothing (λ e. simp e) (λ e. simp e)
seen_mark_lem block p signature = choice_on (λ (z : Shown). cond (gives_class (sample_at block (14 * p))) 3 2 ≡ mark_of false z) (gives_class (sample_at block (14 * p))) both signature (λ e. simp e) (λ e. simp e)
seen_mark_lem block p both = refl

-- the mark after a call, by whether the port stood in IDLE before it, stands there after it, and the call is a tick that runs
pub note_mark : (was is ran : Bool) (code : ℕ) (block : List ℕ) (p : ℕ) (x : Shown) → (was ≡ true → x ≡ nothing) → eqb code 1 ≡ is
    → noted_mark code ran block p (mark_of was x) ≡ mark_of is (cond is nothing (cond ran (cond was x (seen (sample_at block (14 * p)) x)) x))
unfolding noted_mark
note_mark was true ran code block p x q e = simp e
note_mark true false true code block p x q e = simp e (ap (mark_of false) (sym (q refl)))
note_mark true false false code block p x q e = simp e (ap (mark_of false) (sym (q refl)))
note_mark false false true code block p nothing q e = simp e (seen_mark_lem block p nothing)
note_mark false false true code block p signature q e = simp e (seen_mark_lem block p signature)
note_mark false false true code block p both q e = simp e (seen_mark_lem block p both)
note_mark false false false code block p nothing q e = simp e
note_mark false false false code block p signature q e = simp e
note_mark false false false code block p both q e = simp e
