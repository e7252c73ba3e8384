-- No flight stands in the record's zones that were passed. For the loop of `flies_in_record`.
use Rattle.ram_session.proofs.ErasedZones.{NoneFlies}
use Rattle.ram_session.proofs.erasing.flies_in_record.Given as goal

-- no flight stands in the record's zones that were passed
abbrev pub invariant-loop-i : goal.invariant-loop-i
invariant-loop-i l = NoneFlies l.live l.name l.i
