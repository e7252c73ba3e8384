-- The numbers stand for the boot
use Rattle.std.proofs.Common.{sym, ap, ◌∙◌}
use Rattle.zone_boot.specs.declared.boots.Boot.{Boot}
use Rattle.oopsbox_c.specs.BootNumbers.{phase_in, erasure_in}
use Rattle.oopsbox_c.specs.Places.{zone_in}
use Rattle.oopsbox_c.proofs.Back.{boot_phase_back, erasure_back, boot_joined}
use Rattle.oopsbox_c.proofs.boots.boot_of.Goals as goal

pub returns-clause-boot : goal.returns-clause-boot
returns-clause-boot c =
    let b : Boot = c.args.boot.now in
    boot_joined b (zone_in c.args.place.now) (phase_in c.phase_number.result) (erasure_in c.erasure_number.result)
    (sym c.requires) (ap phase_in c.phase_number.ensures.value ∙ boot_phase_back b.phase)
    (ap erasure_in c.erasure_number.ensures.value ∙ erasure_back b.erasure)
