-- What is proved of specs/Refused.
-- Assumes nothing.
use Rattle.std.proofs.Common.{◌≡◌, refl, rules}
use Rattle.sizes.specs.declared.refusals.Refusal.{Refusal}
use Rattle.sizes.specs.declared.refusals.Refusal.TheVariants.{BadLength, NoSuchPort, Reserved, SupplyTooLarge, WrongState, Cut, NoTlv, SeveralTlvs, NotOneTlv, BadValue, OverClass, OverSupply, IllMade}
use Rattle.sizes.specs.Refused.{number, refusal}

-- a refusal's number is its own
pub refusal_number : (r : Refusal) → refusal (number r) ≡ r
refusal_number BadLength = refl
refusal_number NoSuchPort = refl
refusal_number Reserved = refl
refusal_number SupplyTooLarge = refl
refusal_number WrongState = refl
refusal_number Cut = refl
refusal_number NoTlv = refl
refusal_number SeveralTlvs = refl
refusal_number NotOneTlv = refl
refusal_number BadValue = refl
refusal_number OverClass = refl
refusal_number OverSupply = refl
refusal_number IllMade = refl

-- no refusal is numbered 0
pub numbered : (r : Refusal) → number r ≡ 0 → ⊥
numbered BadLength e = search rules
numbered NoSuchPort e = search rules
numbered Reserved e = search rules
numbered SupplyTooLarge e = search rules
numbered WrongState e = search rules
numbered Cut e = search rules
numbered NoTlv e = search rules
numbered SeveralTlvs e = search rules
numbered NotOneTlv e = search rules
numbered BadValue e = search rules
numbered OverClass e = search rules
numbered OverSupply e = search rules
numbered IllMade e = search rules
