-- Whatever a zone holds, a boot leaves it holding what the boot kept. By `Laws`.
use Rattle.ring_laws.proofs.Laws.{boot_leaves_ring_form as law}
use Rattle.ring_laws.proofs.boot_leaves_ring_form.Goals as goal

pub returns : goal.returns
returns c = law
