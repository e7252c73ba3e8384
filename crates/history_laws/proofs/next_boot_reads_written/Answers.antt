-- The headline without told lists, cuts and stops: what the next boot reads of a zone follows from
-- what was written, and from its bytes and flight at the stop. By `NextBoot`.
use Rattle.history_laws.proofs.NextBoot.{next_boot_reads_written as law}
use Rattle.history_laws.proofs.next_boot_reads_written.Goals as goal

pub returns : goal.returns
returns c = law
