-- Rows at the limits of the readings: signatures, powers and samples. Proved in proofs/Limits.
-- Assumes nothing.
use Rattle.std.specs.Prelude.{true, false, List, [], ◌∷◌, Some, None, Ok}
use Rattle.sizes.specs.Refused.{refused}
use Rattle.power.specs.Power.{tenths}
use Rattle.signature.specs.declared.Signature.TheVariants.{Valid, Invalid, Open}
use Rattle.statements.specs.Rows.{Row, signature, voltage, budget_of_row, demand, sample, flags_of_row, flags_reserved_row, supply, forced_claim_row, shows, power, sampled, flags, figure, test}

-- each voltage limit of the signature, the least dV, and currents that stand still or fall
unfoldable pub signatures : List Row
signatures =
    (voltage 0, test true)
    ∷ (voltage 2799, test true)
    ∷ (voltage 2800, test false)
    ∷ (voltage 10000, test false)
    ∷ (voltage 10001, test true)
    ∷ (voltage 65535, test true)
    ∷ (signature 2800 3800 1000 1040, shows Valid)
    ∷ (signature 2799 3800 1000 1040, shows Invalid)
    ∷ (signature 9000 10000 1000 1040, shows Valid)
    ∷ (signature 9000 10001 1000 1040, shows Invalid)
    ∷ (signature 10001 11001 1000 1040, shows Invalid)
    ∷ (signature 2000 2799 1000 1040, shows Invalid)
    ∷ (signature 4000 5000 1000 1040, shows Valid)
    ∷ (signature 4000 4999 1000 1040, shows Invalid)
    ∷ (signature 5000 4000 1000 1040, shows Invalid)
    ∷ (signature 4000 8000 1000 999, shows Open)
    ∷ (signature 4000 8000 65535 0, shows Open)
    ∷ (signature 4000 8000 1000 1000, shows Open)
    ∷ (signature 4000 8000 1000 1009, shows Invalid)
    ∷ (signature 4000 8000 1000 1008, shows Open)
    ∷ (signature 4000 8000 0 160, shows Valid)
    ∷ (signature 0 0 0 0, shows Invalid)
    ∷ (signature 65535 65535 65535 65535, shows Invalid)
    ∷ []

-- the five budgets, the five demands and their neighbours, the forced claim and the highest supply
unfoldable pub powers : List Row
powers =
    (budget_of_row 0, power (tenths 154))
    ∷ (budget_of_row 1, power (tenths 40))
    ∷ (budget_of_row 2, power (tenths 70))
    ∷ (budget_of_row 3, power (tenths 154))
    ∷ (budget_of_row 4, power (tenths 300))
    ∷ (budget_of_row 5, power (tenths 0))
    ∷ (budget_of_row 255, power (tenths 0))
    ∷ (demand 0, test true)
    ∷ (demand 40, test true)
    ∷ (demand 70, test true)
    ∷ (demand 154, test true)
    ∷ (demand 300, test true)
    ∷ (demand 1, test false)
    ∷ (demand 39, test false)
    ∷ (demand 41, test false)
    ∷ (demand 69, test false)
    ∷ (demand 71, test false)
    ∷ (demand 153, test false)
    ∷ (demand 155, test false)
    ∷ (demand 299, test false)
    ∷ (demand 301, test false)
    ∷ (demand 65535, test false)
    ∷ (forced_claim_row, power (tenths 154))
    ∷ (supply 0, figure (Ok (tenths 0)))
    ∷ (supply 60000, figure (Ok (tenths 60000)))
    ∷ (supply 60001, figure (refused 4))
    ∷ (supply 18446744073709551615, figure (refused 4))
    ∷ []

-- each flag and each reserved bit of the flags; the fourteen bytes of a sample
unfoldable pub samples : List Row
samples =
    (flags_of_row 1, flags (record { detection_done = true; class_done = false; settled = false; limiting = false; overload = false; load = false }))
    ∷ (flags_of_row 2, flags (record { detection_done = false; class_done = true; settled = false; limiting = false; overload = false; load = false }))
    ∷ (flags_of_row 4, flags (record { detection_done = false; class_done = false; settled = true; limiting = false; overload = false; load = false }))
    ∷ (flags_of_row 8, flags (record { detection_done = false; class_done = false; settled = false; limiting = true; overload = false; load = false }))
    ∷ (flags_of_row 16, flags (record { detection_done = false; class_done = false; settled = false; limiting = false; overload = true; load = false }))
    ∷ (flags_of_row 32, flags (record { detection_done = false; class_done = false; settled = false; limiting = false; overload = false; load = true }))
    ∷ (flags_of_row 63, flags (record { detection_done = true; class_done = true; settled = true; limiting = true; overload = true; load = true }))
    ∷ (flags_of_row 0, flags (record { detection_done = false; class_done = false; settled = false; limiting = false; overload = false; load = false }))
    ∷ (flags_reserved_row 0, test false)
    ∷ (flags_reserved_row 63, test false)
    ∷ (flags_reserved_row 64, test true)
    ∷ (flags_reserved_row 128, test true)
    ∷ (flags_reserved_row 256, test true)
    ∷ (flags_reserved_row 512, test true)
    ∷ (flags_reserved_row 1024, test true)
    ∷ (flags_reserved_row 2048, test true)
    ∷ (flags_reserved_row 4096, test true)
    ∷ (flags_reserved_row 8192, test true)
    ∷ (flags_reserved_row 16384, test true)
    ∷ (flags_reserved_row 32768, test true)
    ∷ (sample (1 ∷ 2 ∷ 3 ∷ 4 ∷ 5 ∷ 6 ∷ 7 ∷ 8 ∷ 9 ∷ 10 ∷ 11 ∷ 12 ∷ 13 ∷ 14 ∷ []) 0, sampled (Some (record { v1 = 258; v2 = 772; i1 = 1286; i2 = 1800; c1 = 2314; c2 = 2828; flags = 3342 })))
    ∷ (sample (1 ∷ 2 ∷ 3 ∷ 4 ∷ 5 ∷ 6 ∷ 7 ∷ 8 ∷ 9 ∷ 10 ∷ 11 ∷ 12 ∷ 13 ∷ 14 ∷ []) 1, sampled None)
    ∷ (sample (1 ∷ 2 ∷ 3 ∷ 4 ∷ 5 ∷ 6 ∷ 7 ∷ 8 ∷ 9 ∷ 10 ∷ 11 ∷ 12 ∷ 13 ∷ []) 0, sampled None)
    ∷ (sample (1 ∷ 2 ∷ 3 ∷ 4 ∷ 5 ∷ 6 ∷ 7 ∷ 8 ∷ 9 ∷ 10 ∷ 11 ∷ 12 ∷ 13 ∷ 14 ∷ 255 ∷ 254 ∷ 128 ∷ 0 ∷ 0 ∷ 128 ∷ 18 ∷ 52 ∷ 171 ∷ 205 ∷ 0 ∷ 1 ∷ 0 ∷ 63 ∷ []) 1, sampled (Some (record { v1 = 65534; v2 = 32768; i1 = 128; i2 = 4660; c1 = 43981; c2 = 1; flags = 63 })))
    ∷ (sample [] 0, sampled None)
    ∷ []
