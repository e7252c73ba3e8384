-- The records so far have the trace
use Rattle.std.proofs.Common.{◌≡◌, ◌++◌, length, map}
use Rattle.std.specs.Vec.Iter.{into_iter_items, into_iter_len}
use Rattle.zone_spec.specs.RecordsHeld.{RecordHeld}
use Rattle.report_spec.specs.Packed.{traced_by}
use Rattle.region_report.proofs.traced.with_traces.Given as goal

abbrev pub invariant-loop-held : goal.invariant-loop-held
invariant-loop-held l = record {
  traced : l.all.items ≡ map (λ (r : RecordHeld). traced_by r.name l.trace r) l.yielded;
  left : l.fn.records.items ≡ l.yielded ++ into_iter_items l.held-iterator;
  len : into_iter_len l.held-iterator ≡ length (into_iter_items l.held-iterator);
}
