-- `text` puts the bytes, one after the other.
use Rattle.std.proofs.Common.{◌∙◌, [], ◌∷◌, refl, take, get_or, arith}
use Rattle.text.proofs.Room.{put_none, put_more, take_next}
use Rattle.text.proofs.Page.text.Goals as goal

pub loop-b-init : goal.loop-b-init
loop-b-init c = let p = c.args.self.now in (refl, put_none p.room.now p.at)

pub loop-b-preserved : goal.loop-b-preserved
loop-b-preserved c =
    let l = c.loop-b in
    let bytes = c.args.bytes.now in
    let i = l.b-index in
    let p = put_more _ _ (take i bytes) (get_or bytes i 0 ∷ []) _ _ _ _ l.invariant.1 c.put.ensures.put in
    (c.put.ensures.same_room ∙ l.invariant.0, rw (take_next bytes i (omega arith)) p)
