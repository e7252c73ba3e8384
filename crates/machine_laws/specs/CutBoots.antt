-- What a boot that is cut leaves of each zone
use Rattle.std.specs.Prelude.{◌≡◌, ℕ, ◌<◌, ◌≤◌, ◌⊎◌, min, List, [], length, take, drop, slice_get, Some, None}
use Rattle.zone_spec.specs.declared.Zone.{Zone}
use Rattle.zone_spec.specs.Parts.{Part, IsPartOf}
use Rattle.zone_spec.specs.Stores.{after_stores}
use Rattle.zone_spec.specs.Boot.{boot_fixes, boot_erasure, boot_stores, told_by_boot}
use Rattle.zone_spec.specs.Damage.{IsWithinBounds, IsNotDamagedFurther}
use Rattle.zone_spec.specs.Layouts.{IsLayout, zones_end}
use Rattle.machine_spec.specs.Zones.{zone_bytes}
use Rattle.machine_spec.specs.States.{OffZone, OffState, Off}
use Rattle.machine_spec.specs.BootPart.{boot_parted, boot_count, boot_cut, left_at, IsWithinErasure}
use Rattle.machine_spec.specs.Sound.{IsMemory, IsState}
use Rattle.ring_laws.specs.Laws.{ReadsTold}
use Rattle.damage_laws.specs.CutErasures.{ReadsAlike}

-- of the first k boot stores the i-th zone has its own made, and no other
abbrev pub MakesOwnStores : List Zone → OffState → ℕ → ℕ → Zone → Type 0
MakesOwnStores layout off k i z =
    let now = zone_bytes z off.image in
    zone_bytes z (boot_parted layout k off).image ≡ after_stores now
    (take (left_at layout off.image k i) (boot_stores z now))

-- so has each zone
abbrev pub CutBootMakesStores : Type 0
CutBootMakesStores = (layout : List Zone) (mem : ℕ) (off : OffState) (k i : ℕ) (z : Zone) → IsLayout layout mem
    → IsMemory mem off.image → slice_get layout i ≡ Some z
    → MakesOwnStores layout off k i z

-- the bytes behind the last zone are left
abbrev pub CutBootLeavesRest : Type 0
CutBootLeavesRest = (layout : List Zone) (mem : ℕ) (off : OffState) (k : ℕ) → IsLayout layout mem
    → IsMemory mem off.image
    → drop (zones_end layout) (boot_parted layout k off).image ≡ drop (zones_end layout) off.image

-- of a zone's own stores and those after it n were made: its last one, or a store after it
abbrev pub IsPassed : Zone → List ℕ → ℕ → Type 0
IsPassed z now n = (0 < n) × (length (boot_stores z now) ≤ n)

-- what is held of the i-th zone, of whose own stores and those after it n were made: it was finished, by
-- its last store, by one after it or by all; it was within its erasure; or neither, and all stays
pub record HoldsAfter (layout : List Zone) (off : OffState) (k i : ℕ) (z : Zone) (old new : OffZone) : Type 0 where
  pub finished : let now = zone_bytes z off.image in
      (boot_count layout off.image ≤ k) ⊎ IsPassed z now (left_at layout off.image k i)
      → new ≡ record {
        stop = zone_bytes z (boot_parted layout k off).image;
        told = Some (told_by_boot z now);
        cut = None;
      }
  pub erasing : let now = zone_bytes z off.image in let n = left_at layout off.image k i in
      IsWithinErasure z now n
      → new ≡ record {
        stop = zone_bytes z (boot_parted layout k off).image;
        told = old.told;
        cut = Some (boot_cut z now n);
      }
  pub not_begun : let now = zone_bytes z off.image in let n = left_at layout off.image k i in
      k < boot_count layout off.image → n ≤ length (boot_fixes z now) → (n ≡ 0) ⊎ (n < length (boot_stores z now))
      → new ≡ old

-- so it is of each zone
abbrev pub CutBootHolds : Type 0
CutBootHolds = (layout : List Zone) (mem : ℕ) (off : OffState) (k i : ℕ) (z : Zone) (old new : OffZone)
    → IsLayout layout mem → IsMemory mem off.image
    → slice_get layout i ≡ Some z → slice_get off.zones i ≡ Some old
    → slice_get (boot_parted layout k off).zones i ≡ Some new
    → HoldsAfter layout off k i z old new

-- until its erasure has begun, or where it has none, the zone reads the same, but that each correction
-- made is one less; once it has finished it reads what the boot kept
pub record ReadsAfter (layout : List Zone) (off : OffState) (k i : ℕ) (z : Zone) : Type 0 where
  pub not_begun : let now = zone_bytes z off.image in let n = left_at layout off.image k i in
      (n ≤ length (boot_fixes z now)) ⊎ (boot_erasure z now ≡ [])
      → ReadsAlike z now (zone_bytes z (boot_parted layout k off).image) (min n (length (boot_fixes z now)))
  pub finished : let now = zone_bytes z off.image in
      length (boot_stores z now) ≤ left_at layout off.image k i
      → ReadsTold z (zone_bytes z (boot_parted layout k off).image) (told_by_boot z now)

-- so reads each zone
abbrev pub CutBootReads : Type 0
CutBootReads = (layout : List Zone) (mem : ℕ) (off : OffState) (k i : ℕ) (z : Zone) → IsLayout layout mem
    → IsMemory mem off.image → slice_get layout i ≡ Some z
    → ReadsAfter layout off k i z

-- what is held of a zone is as before, and damage from before and after the boot counts together; or the
-- boot's end is the zone's stop
abbrev pub IsLeftOrStopped : OffState → OffState → Zone → OffZone × OffZone → Type 0
IsLeftOrStopped off after z (old, new) =
    let now = zone_bytes z off.image in let later = zone_bytes z after.image in
    ((new ≡ old) × ((part : Part) → IsPartOf z part → IsWithinBounds z old.stop now part
    → IsWithinBounds z old.stop later part)
    × (IsNotDamagedFurther z old.stop now → IsNotDamagedFurther z old.stop later))
    ⊎ (new.stop ≡ later)

-- so it is of each zone, and the state that a cut boot leaves is sound
abbrev pub CutBootKeepsStops : Type 0
CutBootKeepsStops = (layout : List Zone) (mem : ℕ) (off : OffState) (k : ℕ) → IsLayout layout mem
    → IsState layout mem (Off off)
    → let after = boot_parted layout k off in
    IsState layout mem (Off after)
    × ((i : ℕ) (z : Zone) (old new : OffZone) → slice_get layout i ≡ Some z → slice_get off.zones i ≡ Some old
    → slice_get after.zones i ≡ Some new
    → IsLeftOrStopped off after z (old, new))
