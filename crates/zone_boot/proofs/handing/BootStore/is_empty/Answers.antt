-- A run is no store exactly when it has no bytes. For `BootStore::is_empty`.
use Rattle.std.proofs.Common.{sym, ap, ◌∙◌}
use Rattle.zone_boot.specs.declared.handing.Given.{Given}
use Rattle.zone_boot.specs.Handed.{handed_by}
use Rattle.zone_boot.proofs.PartFixes.{byte-none, byte-some, empty-is, empty-test}
use Rattle.zone_boot.proofs.handing.BootStore.is_empty.Goals as goal

pub returns-in-Bytes : goal.returns-in-Bytes
returns-in-Bytes c =
    let s = c.args.self.now in
    let is = ap (λ (g : Given). handed_by g s.byte_order s.place s.word s.bytes.items) c.in-Bytes.is in (
      (λ h. is ∙ byte-none s.place s.bytes.items (empty-is s.bytes.items _ c.is_empty.ensures h)),
      (λ h. empty-test s.bytes.items _ c.is_empty.ensures (byte-some s.place s.bytes.items (sym is ∙ h))),
    )
