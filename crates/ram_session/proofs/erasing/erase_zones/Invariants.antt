-- The zones that were passed are erased if they belong to the record. For the loop of
-- `erase_zones`.
use Rattle.ram_session.proofs.ErasedZones.{ErasesTo}
use Rattle.ram_session.proofs.erasing.erase_zones.Given as goal

-- the zones that were passed were erased where they belong to the record
abbrev pub invariant-loop-i : goal.invariant-loop-i
invariant-loop-i l = ErasesTo l.name l.i l.initial.live l.live
