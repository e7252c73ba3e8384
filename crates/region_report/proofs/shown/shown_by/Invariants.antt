-- The records so far are shown
use Rattle.std.proofs.Common.{◌≡◌, ◌++◌, length}
use Rattle.std.specs.Vec.Iter.{into_iter_items, into_iter_len}
use Rattle.report_spec.specs.Packed.{AreShownBy}
use Rattle.region_report.proofs.shown.shown_by.Given as goal

abbrev pub invariant-loop-held : goal.invariant-loop-held
invariant-loop-held l = record {
  shown : AreShownBy l.zones l.symbols l.shift l.yielded l.all.items;
  left : l.fn.records.items ≡ l.yielded ++ into_iter_items l.held-iterator;
  len : into_iter_len l.held-iterator ≡ length (into_iter_items l.held-iterator);
}
