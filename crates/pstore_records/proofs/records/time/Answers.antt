-- The source of a name has the listed record's time. For `time`.
use Rattle.std.proofs.Common.{ap}
use Rattle.std.specs.Option.{option_and_then}
use Rattle.zone_spec.specs.Records.{Listed}
use Rattle.pstore_records.proofs.records.time.Goals as goal

pub returns-in_err-source : goal.returns-in_err-source
returns-in_err-source c = rw c.from_residual.ensures
    (ap (option_and_then (λ (r : Listed). r.time)) c.in_err-source.ensures.listed)

pub returns : goal.returns
returns c = ap (option_and_then (λ (r : Listed). r.time)) c.in_ok-source.ensures.listed
