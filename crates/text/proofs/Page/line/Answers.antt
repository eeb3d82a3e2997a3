-- `line` puts the bytes, and then the end of the line.
use Rattle.std.proofs.Common.{[], ◌∷◌}
use Rattle.text.proofs.Room.{put_more}
use Rattle.text.proofs.Page.line.Goals as goal

pub returns-clause-put : goal.returns-clause-put
returns-clause-put c = put_more _ _ _ (10 ∷ []) _ _ _ _ c.text.ensures.put c.end.ensures.put
