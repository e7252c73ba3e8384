-- The newest of the records so far is held
use Rattle.std.proofs.Common.{◌≡◌, false, take}
use Rattle.std.specs.Prelude.{IfSome, IsSome}
use Rattle.std.specs.Option.{option_copied}
use Rattle.std.specs.List.{list_any}
use Rattle.report_spec.specs.Newest.{is_newer, newest}
use Rattle.region_report.proofs.newest.newest_dump.Given as goal

abbrev pub invariant-loop-entry : goal.invariant-loop-entry
invariant-loop-entry l = record {
  first : option_copied l.newest ≡ newest (take l.entry-index l.records);
  newest : list_any (λ r. is_newer r (option_copied l.newest)) (take l.entry-index l.records) ≡ false;
  dated : IfSome l.newest (λ r. IsSome r.now.time);
}
