-- `hex` puts the bytes as pairs of digits, one byte after the other.
use Rattle.std.proofs.Common.{◌≡◌, ◌∙◌, [], ◌∷◌, ◌++◌, ◌+◌, ◌/◌, ◌%◌, refl, sym, ap, append_assoc, take, get_or, arith}
use Rattle.std.specs.Prelude.{ℕ, List}
use Rattle.parts.specs.Hex.{glyph_of, hex_of}
use Rattle.parts.proofs.Hex.{hex_more}
use Rattle.text.proofs.Room.{put_none, put_more, take_next}
use Rattle.text.proofs.Page.hex.Goals as goal

-- two digits after those of the bytes before
two : (bytes : List ℕ) (i g h : ℕ) → g ≡ glyph_of (get_or bytes i 0 / 16) → h ≡ glyph_of (get_or bytes i 0 % 16) → take (i + 1) bytes ≡ take i bytes ++ (get_or bytes i 0 ∷ [])
    → (hex_of (take i bytes) ++ (g ∷ [])) ++ (h ∷ []) ≡ hex_of (take (i + 1) bytes)
two bytes i g h e f n = append_assoc (hex_of (take i bytes)) (g ∷ []) (h ∷ []) ∙ simp (e, f) (sym (ap hex_of n ∙ hex_more (take i bytes) (get_or bytes i 0)))

pub loop-byte-init : goal.loop-byte-init
unfolding hex_of
loop-byte-init c = let p = c.args.self.now in (refl, put_none p.room.now p.at)

pub loop-byte-preserved : goal.loop-byte-preserved
loop-byte-preserved c =
    let l = c.loop-byte in
    let bytes = c.args.bytes.now in
    let i = l.byte-index in
    let p = put_more _ _ (hex_of (take i bytes)) (c.glyph.result ∷ []) _ _ _ _ l.invariant.1 c.put.ensures.put in
    let q = put_more _ _ (hex_of (take i bytes) ++ (c.glyph.result ∷ [])) (c.glyph-in-loop-byte.result ∷ []) _ _ _ _ p c.put-in-loop-byte.ensures.put in (
      c.put-in-loop-byte.ensures.same_room ∙ c.put.ensures.same_room ∙ l.invariant.0,
      rw (two bytes i _ _ c.glyph.ensures c.glyph-in-loop-byte.ensures (take_next bytes i (omega arith))) at q,
    )
