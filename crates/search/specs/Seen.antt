-- What the walk has passed, while it goes on: none, one, or more than one power TLV.
use Rattle.std.specs.Prelude.{ℕ, cond, List, Result, Ok}
use Rattle.header.specs.Header.{is_power}
use Rattle.search.specs.declared.Found.{Found}
use Rattle.search.specs.declared.Seen.{Seen}
use Rattle.search.specs.declared.Seen.TheVariants.{Nothing, One, More}
use Rattle.sizes.specs.declared.refusals.Refusal.{Refusal}
use Rattle.sizes.specs.Refused.{refused}

-- one more
abbrev pub another : Seen → Found → Seen
another Nothing tlv = One tlv
another (One first) tlv = More
another More tlv = More

-- after a TLV, which counts if it is a power TLV
unfoldable pub noted_of : List ℕ → Found → Seen → Seen
noted_of bytes tlv seen = cond (is_power bytes tlv.start) (another seen tlv) seen

-- the answer if the walk ends here
unfoldable pub answer_of : Seen → Result Found Refusal
answer_of Nothing = refused 7
answer_of (One tlv) = Ok tlv
answer_of More = refused 8
