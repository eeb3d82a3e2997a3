-- `put` puts one byte, if there is room for it.
use Rattle.std.proofs.Common.{[], ◌∷◌}
use Rattle.text.proofs.Room.{put_byte, put_full}
use Rattle.text.proofs.Page.put.Goals as goal

pub returns-then-self-clause-put : goal.returns-then-self-clause-put
returns-then-self-clause-put c = let p = c.args.self.now in put_byte p.room.now p.at c.args.b c.if-self.true

pub returns-else-self-clause-put : goal.returns-else-self-clause-put
returns-else-self-clause-put c = let p = c.args.self.now in put_full p.room.now p.at (c.args.b ∷ []) c.if-self.false
