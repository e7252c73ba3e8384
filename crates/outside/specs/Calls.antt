-- The calls of an object in memory: which of them fail, and how they are counted.
use Rattle.std.specs.Prelude.{ℕ, ◌==◌, Bool, if◌then◌else◌}
use Rattle.std.specs.List.{list_any}
use Rattle.outside.specs.Outside.{next_count}
use Rattle.outside.specs.declared.calls.CallLog.{CallLog}

-- whether the next call is among those that are to fail
abbrev pub is_to_fail : CallLog → Bool
is_to_fail log = list_any (λ n. n == next_count log.made) log.fails

-- one more call was made, and it failed or not
abbrev pub counted : CallLog → Bool → CallLog
counted log failed = record {
  fails = log.fails;
  made = next_count log.made;
  faults = if failed then next_count log.faults else log.faults;
}
