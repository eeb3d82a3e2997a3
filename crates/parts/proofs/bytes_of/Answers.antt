-- `bytes_of` is `bytes_of` and leaves `room_after`.
use Rattle.std.proofs.Common.{◌≡◌, ◌∙◌, sym, true, length, arith}
use Rattle.std.specs.Prelude.{◌∷◌, []}
use Rattle.std.proofs.lemmas.Bool.Decides.{Decides-eqb}
use Rattle.std.proofs.lemmas.Slice.Eq.{slice_eq-Decides}
use borrow.Author.Tests.{eqb-true, eqb-false}
use Rattle.parts.proofs.Hex.{took, dash, empty, odd, small, other, pairs}
use Rattle.parts.proofs.bytes_of.Goals as goal
use Rattle.parts.proofs.bytes_of.Goals.{then-is_empty-via-then-is_empty, then-is_empty-via-else-is_empty+then-word-ne0, then-is_empty-via-else-is_empty+else-word-ne0+then-room-n, then-is_empty-via-else-is_empty+else-word-ne0+else-room-n+then-not-all_hex}

pub returns-then-eq : goal.returns-then-eq
returns-then-eq c =
    let a = c.args in
    let d = slice_eq-Decides Decides-eqb _ _ _ c.eq.ensures in
    dash a.word.now a.room.now (d.0 c.if-eq.true ∙ c.as_slice.ensures)

pub returns-then-is_empty : goal.returns-then-is_empty
returns-then-is_empty c =
    let w = c.args.word.now in
    let room = c.args.room.now in
    let n : w ≡ 45 ∷ [] → ⊥ = λ e. let f : c.eq.result ≡ true = (slice_eq-Decides Decides-eqb _ _ _ c.eq.ensures).1 (e ∙ sym c.as_slice.ensures) in cc in
    elim c.then-is_empty.branch [
      | then-is_empty-via-then-is_empty v ↦ empty w room (eqb-true (length w) 0 (sym c.is_empty.ensures ∙ v.if-is_empty.true))
      | then-is_empty-via-else-is_empty+then-word-ne0 v ↦ odd w room n v.if-word-ne0.true
      | then-is_empty-via-else-is_empty+else-word-ne0+then-room-n v ↦ small w room v.if-room-n.true
      | then-is_empty-via-else-is_empty+else-word-ne0+else-room-n+then-not-all_hex v ↦ other w room n (sym v.all_hex.ensures ∙ v.if-not-all_hex.true)
    ]

pub returns : goal.returns
returns c =
    let w = c.args.word.now in
    let room = c.args.room.now in
    let z : length w ≡ 0 → ⊥ = eqb-false (length w) 0 (sym c.is_empty.ensures ∙ c.if-is_empty.false) in
    let t = took w room (pairs w room (omega arith) c.if-word-ne0.false c.if-room-n.false (sym c.all_hex.ensures ∙ c.if-not-all_hex.false)) in
    (t.0, c.fill.ensures ∙ t.1)
