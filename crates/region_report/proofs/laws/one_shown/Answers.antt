-- A record is shown in one way. By `OneWay`.
use Rattle.region_report.proofs.OneWay.{one_shown}
use Rattle.region_report.proofs.laws.one_shown.Goals as goal

pub returns : goal.returns
returns c = one_shown
