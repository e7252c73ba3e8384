-- The records so far have their doubts
use Rattle.std.proofs.Common.{◌≡◌, ◌++◌, length, map}
use Rattle.std.specs.Vec.Iter.{into_iter_items, into_iter_len}
use Rattle.prz_read.specs.Saving.{saved}
use Rattle.report_spec.specs.Packed.{RecordShown}
use Rattle.report_spec.specs.Doubts.{with_doubts}
use Rattle.region_report.proofs.doubts.records_doubted.Given as goal

abbrev pub invariant-loop-entry : goal.invariant-loop-entry
invariant-loop-entry l = record {
  doubted : l.all.items ≡ map (λ (r : RecordShown). with_doubts l.zones (saved l.logs) l.parts r) l.yielded;
  left : l.fn.records.items ≡ l.yielded ++ into_iter_items l.entry-iterator;
  len : into_iter_len l.entry-iterator ≡ length (into_iter_items l.entry-iterator);
}
