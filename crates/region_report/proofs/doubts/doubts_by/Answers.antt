-- The zone is valid
use Rattle.std.proofs.Common.{ap}
use Rattle.std.specs.Option.{option_copied}
use Rattle.region_report.proofs.doubts.doubts_by.Goals as goal

pub log_doubts-requires : goal.log_doubts-requires
log_doubts-requires c = c.requires c.in-Some.zone.now (ap (λ o. option_copied o) c.in-Some.is)
