-- The length is the sum of the first `i` zones, and small. For the loop of `merged_len`.
use Rattle.std.proofs.Common.{◌≡◌, ◌*◌, ◌≤◌, ◌^◌, take}
use Rattle.std.specs.Prelude.{sum_by}
use Rattle.zone_spec.specs.declared.Kind.TheVariants.{Ftrace}
use Rattle.zone_spec.specs.Records.{logs_of}
use Rattle.prz_read.specs.Saving.{saved}
use Rattle.pstore_records.proofs.Merges.{whole}
use Rattle.pstore_records.proofs.merging.merged_len.Given as goal

abbrev pub invariant-loop-i : goal.invariant-loop-i
invariant-loop-i l = record {
  sum : l.len ≡ sum_by whole (logs_of Ftrace (take l.i (saved l.logs)));
  few : l.len ≤ 2 ^ 64 * l.i;
}
