-- A zone that holds what it was told reads it. By `Laws`.
use Rattle.ring_laws.proofs.Laws.{ring_form_reads_told as law}
use Rattle.ring_laws.proofs.ring_form_reads_told.Goals as goal

pub returns : goal.returns
returns c = law
