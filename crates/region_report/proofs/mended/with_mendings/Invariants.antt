-- The records so far are mended
use Rattle.std.proofs.Common.{◌≡◌, ◌++◌, length, map}
use Rattle.std.specs.Vec.Iter.{into_iter_items, into_iter_len}
use Rattle.report_spec.specs.Mending.{mended_in}
use Rattle.region_report.proofs.mended.with_mendings.Given as goal

abbrev pub invariant-loop-entry : goal.invariant-loop-entry
invariant-loop-entry l = record {
  mended : l.all.items ≡ map (mended_in l.mendings.console l.mendings.dump l.mendings.name) l.yielded;
  left : l.fn.records.items ≡ l.yielded ++ into_iter_items l.entry-iterator;
  len : into_iter_len l.entry-iterator ≡ length (into_iter_items l.entry-iterator);
}
