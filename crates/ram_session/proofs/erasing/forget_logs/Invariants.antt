-- The logs that were passed are forgotten if their zones belong to the record. For the loop of
-- `forget_logs`.
use Rattle.ram_session.proofs.EraseLines.{ForgetsTo}
use Rattle.ram_session.proofs.erasing.forget_logs.Given as goal

-- the readings that were passed were forgotten where their zones belong to the record
abbrev pub invariant-loop-i : goal.invariant-loop-i
invariant-loop-i l = ForgetsTo l.name l.i l.initial.logs l.logs
