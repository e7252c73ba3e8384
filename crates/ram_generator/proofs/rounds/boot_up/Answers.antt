-- A booted machine stands for the booted state, with its reports. For `boot_up`.
use Rattle.std.proofs.Common.{map}
use Rattle.ramoops.specs.Reports.{report_seen}
use Rattle.ram_generator.proofs.RoundCalls.{is_up}
use Rattle.ram_generator.proofs.rounds.boot_up.Goals as goal

pub returns-in-Ok : goal.returns-in-Ok
returns-in-Ok c layout mem s lies stands size =
    is_up layout mem s c.args.off c.in-Ok.live _ (map report_seen c.in-Ok.report)
    (rw c.image.ensures at c.check.ensures) lies stands size (c.in-Ok.ensures.booted layout mem s stands)
