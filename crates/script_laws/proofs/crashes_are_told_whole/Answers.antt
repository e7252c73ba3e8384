-- A crash's dump has its whole body after the time line. By `Crashes`.
use Rattle.script_laws.proofs.Crashes.{told_whole}
use Rattle.script_laws.proofs.crashes_are_told_whole.Goals as goal

pub returns : goal.returns
returns c = told_whole
