-- The laws, from the lemmas that stand on them
use Rattle.ring_laws.specs.Laws.{CallKeepsRingForm, BootLeavesRingForm, RingFormReadsTold, FinishedZoneReadsTold}
use Rattle.ring_laws.proofs.CallLaw.{call_law}
use Rattle.ring_laws.proofs.PartsLaw.{block_some}
use Rattle.ring_laws.proofs.BootRing.{boot_keeps}
use Rattle.ring_laws.proofs.ReadingLaw.{reading_law}

pub call_keeps_ring_form : CallKeepsRingForm
call_keeps_ring_form z call image told valid im ring can = call_law z valid call image told im ring can

pub boot_leaves_ring_form : BootLeavesRingForm
boot_leaves_ring_form z now valid im = boot_keeps z valid now im

pub ring_form_reads_told : RingFormReadsTold
ring_form_reads_told z image told valid ring = reading_law z image told (block_some z valid) ring

pub finished_zone_reads_told : FinishedZoneReadsTold
finished_zone_reads_told z now valid im = reading_law z _ _ (block_some z valid) (boot_keeps z valid now im)
