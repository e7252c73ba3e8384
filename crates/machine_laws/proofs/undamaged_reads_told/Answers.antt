-- Zones whose bytes stand as at their stops read what they were told. By `Sessions`.
use Rattle.machine_laws.proofs.Sessions.{undamaged_reads_told as law}
use Rattle.machine_laws.proofs.undamaged_reads_told.Goals as goal

pub returns : goal.returns
returns c = law
