use Rattle.std.proofs.Common.{◌≡◌, ◌%◌, ◌<◌, ◌≤◌}
use Rattle.second_sharing.specs.Shared.{first_shed}
use Rattle.second_sharing.proofs.first_shed.Given as goal

-- the first of the ports so far
abbrev pub invariant-loop-p : goal.invariant-loop-p
invariant-loop-p l = (l.first ≡ first_shed l.before l.after l.p) × (l.first ≤ 384) × (l.first % 64 < 48)
