-- A run of bytes is as many stores as bytes. For `BootStore::count`.
use Rattle.std.proofs.Common.{length, sym, ap, ◌∙◌}
use Rattle.ring_laws.proofs.StoreCounts.{length-byte_stores}
use Rattle.zone_boot.specs.declared.handing.Given.{Given}
use Rattle.zone_boot.specs.Handed.{handed_by}
use Rattle.zone_boot.proofs.handing.BootStore.count.Goals as goal

pub returns-in-Bytes : goal.returns-in-Bytes
returns-in-Bytes c =
    let s = c.args.self.now in
    c.len.ensures.value ∙ sym (length-byte_stores s.place s.bytes.items)
    ∙ ap (λ (g : Given). length (handed_by g s.byte_order s.place s.word s.bytes.items)) (sym c.in-Bytes.is)
