-- The machine and the logs that `boot_store` gives are those of a boot of the image that was read.
use Rattle.commands.proofs.FirstBoot.{booted_from}
use Rattle.commands.proofs.stores.boot_store.Goals as goal

pub returns-in-Ok-boot-clause-booted : goal.returns-in-Ok-boot-clause-booted
returns-in-Ok-boot-clause-booted g c =
    booted_from _ _ c.mem.result _ c.in-Ok.bytes.items c.in-Ok-fresh_store.off c.in-Ok-boot.live c.in-Ok-boot.logs _
    c.mem.ensures c.in-Ok.ensures.ok.1 c.in-Ok-fresh_store.ensures c.in-Ok-boot.ensures.booted
