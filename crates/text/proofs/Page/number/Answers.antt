-- `number` puts a space, and then the digits.
use Rattle.std.proofs.Common.{[], ◌∷◌}
use Rattle.text.proofs.Room.{put_more}
use Rattle.text.proofs.Page.number.Goals as goal

pub returns-clause-put : goal.returns-clause-put
returns-clause-put c = put_more _ _ (32 ∷ []) _ _ _ _ _ c.put.ensures.put c.digits.ensures.put
