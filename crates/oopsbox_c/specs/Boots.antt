-- What the calls on a boot answer
use Rattle.std.specs.Prelude.{◌≡◌, ℕ, ◌+◌, ◌<◌, ◌≤◌, ◌↔◌, List, [], ◌++◌, length, take, drop}
use Rattle.zone_spec.specs.Stores.{Store, after_stores}
use Rattle.zone_spec.specs.Boot.{boot_stores}
use Rattle.zone_boot.specs.declared.boots.Boot.{Boot}
use Rattle.zone_boot.specs.declared.boots.Phase.TheVariants.{Finished}
use Rattle.zone_boot.specs.Booting.{left_of, IsKept, IsBooting}
use Rattle.oopsbox_c.specs.BootNumbers.{phase_in, erasure_in}
use Rattle.oopsbox_c.specs.Places.{zone_in, IsPlace}
use Rattle.oopsbox_c.specs.Stores.{stores_in, AreInside, AreOfBoot}
use Rattle.oopsbox_c.specs.declared.ends.End.{End}
use Rattle.oopsbox_c.specs.declared.ends.End.TheVariants.{Done, Argument}
use Rattle.oopsbox_c.specs.declared.places.ZonePlace.{ZonePlace}
use Rattle.oopsbox_c.specs.declared.boots.ZoneBoot.{ZoneBoot}
use Rattle.oopsbox_c.specs.declared.stores.Stores.{Stores}

-- the boot that numbers stand for
abbrev pub boot_in : ZoneBoot → Boot
boot_in b = record {
  zone = zone_in b.zone;
  made = b.made;
  phase = phase_in b.phase;
  erasure = erasure_in b.erasure;
  block = b.block;
  within = b.within;
  count = b.count;
}

-- bytes of a zone that a layout can have
pub record CanBoot (place : ZonePlace) (image : List ℕ) : Type 0 where
  pub is_place : IsPlace place
  pub len : length image ≡ place.size

-- numbers that a boot can have
pub record IsBoot (b : ZoneBoot) : Type 0 where
  pub place : IsPlace b.zone
  pub phase : b.phase ≤ 6
  pub erasure : b.erasure ≤ 2
  pub kept : IsKept (boot_in b)

-- the boot before its first store
pub record IsBootBegun (place : ZonePlace) (image : List ℕ) (b : ZoneBoot) : Type 0 where
  pub boot : IsBoot b
  pub zone : b.zone ≡ place
  pub made : b.made ≡ 0
  pub stands : IsBooting (boot_in b) image image

abbrev pub BootEnds : End → ZonePlace → List ℕ → ZoneBoot → ZoneBoot → Type 0
BootEnds Done place image old new = CanBoot place image × IsBootBegun place image new
BootEnds Argument place image old new = (¬ (CanBoot place image)) × (new ≡ old)
BootEnds other place image old new = ⊥

-- the boot is one, and these can be its zone's bytes
pub record CanBootOn (b : ZoneBoot) (image : List ℕ) : Type 0 where
  pub boot : IsBoot b
  pub len : length image ≡ b.zone.size

-- a boot has no line and no payload
abbrev pub boot_stores_in : Stores → List Store
boot_stores_in out = stores_in out [] []

-- the next stores were handed out, and the boot stands behind them
pub record IsBootNext (b g : ZoneBoot) (image : List ℕ) (out : Stores) : Type 0 where
  pub boot : IsBoot g
  pub zone : g.zone ≡ b.zone
  pub made : g.made ≡ b.made + length (boot_stores_in out)
  pub what : AreOfBoot out
  pub inside : AreInside b.zone.size out [] []
  pub handed : (before : List ℕ) → IsBooting (boot_in b) before image → boot_stores_in out
      ≡ take (length (boot_stores_in out)) (drop b.made (boot_stores (zone_in b.zone) before))
  pub stands : (before : List ℕ) → IsBooting (boot_in b) before image
      → IsBooting (boot_in g) before (after_stores image (boot_stores_in out))
  pub some : (before : List ℕ) → IsBooting (boot_in b) before image
      → b.made < length (boot_stores (zone_in b.zone) before) → 0 < length (boot_stores_in out)
  pub finished : (before : List ℕ) → IsBooting (boot_in b) before image
      → (out.is_last ≡ 1) ↔ (b.made ≡ length (boot_stores (zone_in b.zone) before))
  pub flag : out.is_last ≤ 1
  -- whatever the image is: the stores are the next of those that are left, only the last answer has none, and with it
  -- the boot is finished
  pub left : left_of (boot_in b) image
      ≡ boot_stores_in out ++ left_of (boot_in g) (after_stores image (boot_stores_in out))
  pub last : (out.is_last ≡ 1) ↔ (boot_stores_in out ≡ [])
  pub none : out.is_last ≡ 1 → out.count ≡ 0
  pub none_left : out.is_last ≡ 1 → left_of (boot_in b) image ≡ []
  pub ends : out.is_last ≡ 1 → (boot_in g).phase ≡ Finished

abbrev pub BootNextEnds : End → ZoneBoot → ZoneBoot → List ℕ → Stores → Stores → Type 0
BootNextEnds Done b g image old new = CanBootOn b image × IsBootNext b g image new
BootNextEnds Argument b g image old new = (¬ (CanBootOn b image)) × (g ≡ b) × (new ≡ old)
BootNextEnds other b g image old new = ⊥
