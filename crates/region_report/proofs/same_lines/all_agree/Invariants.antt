-- What is left decides. For the loop of `all_agree`.
use Rattle.std.proofs.Common.{◌≡◌, ◌-◌}
use Rattle.std.specs.List.{list_all, range_with_len}
use Rattle.report_spec.specs.Mending.{agree}
use Rattle.region_report.specs.Mendings.{as_seen}
use Rattle.region_report.proofs.same_lines.all_agree.Given as goal

abbrev pub invariant-loop-k : goal.invariant-loop-k
invariant-loop-k l =
    list_all (agree (as_seen l.x) (as_seen l.y)) (range_with_len l.k (l.len - l.k))
    ≡ list_all (agree (as_seen l.x) (as_seen l.y)) (range_with_len 0 l.len)
