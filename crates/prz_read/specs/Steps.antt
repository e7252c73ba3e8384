-- A boot whose first stores are made, up to a limit
use Rattle.std.specs.Prelude.{◌≡◌, ℕ, ◌+◌, ◌≤◌, List, length, take}
use Rattle.zone_spec.specs.declared.Zone.{Zone}
use Rattle.zone_spec.specs.Parts.{Part}
use Rattle.zone_spec.specs.PartReadings.{part_reading}
use Rattle.zone_spec.specs.Boot.{boot_stores}
use Rattle.prz_region.specs.CutRegion.{CutRegion, span, stored}
use Rattle.zone_boot.specs.declared.boots.Boot.{Boot}
use Rattle.zone_boot.specs.declared.deciding.Erasure.{Erasure}
use Rattle.zone_boot.specs.Booting.{left_of, IsKept, IsBooting}
use Rattle.prz_read.specs.Sources.{IsFixing}

-- of the stores that the boot has handed out those within the limit were made, in turn, and it has as many left as ever;
-- while it corrects, each part reads as before
pub record IsSettling (z : Zone) (before : List ℕ) (first : CutRegion) (i limit n : ℕ) (e : Erasure) (b : Boot)
    (now : CutRegion) : Type 0 where
  pub zone : b.zone ≡ z
  pub kept : IsKept b
  pub erasure : b.erasure ≡ e
  pub blocks : b.count ≡ n
  pub spans : now ≡ stored first i (take limit (take b.made (boot_stores z before)))
  pub booting : b.made ≤ limit → IsBooting b before (span now i)
  pub total : b.made + length (left_of b (span now i)) ≡ length (boot_stores z before)
  pub reads : IsFixing b.phase → (p : Part)
      → (part_reading z (span now i) p).bytes ≡ (part_reading z before p).bytes
