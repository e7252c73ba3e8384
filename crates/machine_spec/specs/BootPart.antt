-- A boot that is cut after some of its stores: told lists, cuts and stops of each zone
use Rattle.std.specs.Prelude.{ℕ, ◌+◌, ◌-◌, ◌<◌, min, Bool, ◌&&◌, ◌||◌, if◌then◌else◌, nat_lt, nat_le, List, [], ◌∷◌}
use Rattle.std.specs.Prelude.{length, take, map, flat_map, Some, None}
use Rattle.zone_spec.specs.declared.Zone.{Zone}
use Rattle.zone_spec.specs.Parts.{Header, part_word}
use Rattle.zone_spec.specs.Stores.{Store, after_stores}
use Rattle.zone_spec.specs.Boot.{boot_stores, boot_fixes, told_by_boot}
use Rattle.zone_spec.specs.Cut.{Cut, ByBoot}
use Rattle.machine_spec.specs.Zones.{zone_bytes}
use Rattle.machine_spec.specs.States.{OffZone, OffState}

-- a store of a zone as a store of the image
abbrev pub moved : ℕ → Store → Store
moved at s = record { place = at + s.place; bytes = s.bytes }

-- the boot stores of an image: those of its zones in layout order, end to end
abbrev pub image_boot_stores : List Zone → List ℕ → List Store
image_boot_stores layout image = flat_map (λ (z : Zone). map (λ s. moved z.at s) (boot_stores z (zone_bytes z image)))
    layout

-- how many they are
abbrev pub boot_count : List Zone → List ℕ → ℕ
boot_count layout image = length (image_boot_stores layout image)

-- with so many of its stores made, a boot began a zone's erasure and did not finish it
abbrev pub IsWithinErasure : Zone → List ℕ → ℕ → Type 0
IsWithinErasure z bytes count = (length (boot_fixes z bytes) < count) × (count < length (boot_stores z bytes))

-- the erasure that a boot began, and did not finish, as a cut: its header is that after the corrections,
-- with the words that were read
abbrev pub boot_cut : Zone → List ℕ → ℕ → Cut
boot_cut z bytes count = record {
  by = ByBoot;
  header = part_word z (after_stores bytes (boot_fixes z bytes)) Header;
  made = count - length (boot_fixes z bytes);
}

-- a zone that the boot has finished: it is told what the boot kept
abbrev pub zone_finished : Zone → List ℕ → OffZone
zone_finished z bytes = record {
  stop = after_stores bytes (boot_stores z bytes);
  told = Some (told_by_boot z bytes);
  cut = None;
}

-- a zone that the boot was erasing: its told list stays, also none
abbrev pub zone_cut : Zone → List ℕ → ℕ → OffZone → OffZone
zone_cut z bytes count zone =
    record {
      stop = after_stores bytes (take count (boot_stores z bytes));
      told = zone.told;
      cut = Some (boot_cut z bytes count);
    }

-- whether a boot has finished a zone, where so many of the stores made come at or behind it: all its stores were made,
-- or the zone's last one was
abbrev pub is_finished : Zone → List ℕ → Bool → ℕ → Bool
is_finished z bytes all count = all || (nat_lt 0 count && nat_le (length (boot_stores z bytes)) count)

-- a zone, where so many of the stores made come at or behind it: finished; cut, within its erasure; else as it was
abbrev pub zone_parted : Zone → List ℕ → Bool → ℕ → OffZone → OffZone
zone_parted z bytes all count zone =
    if is_finished z bytes all count then zone_finished z bytes
    else (if nat_lt (length (boot_fixes z bytes)) count then zone_cut z bytes count zone
    else zone)

-- how many of the first count boot stores come at or behind the i-th zone
abbrev pub left_at : List Zone → List ℕ → ℕ → ℕ → ℕ
left_at layout image count i = count - boot_count (take i layout) image

-- the zones in layout order, where so many of the stores made are left for them: each has its own, and what
-- is then left is for those after it
unfoldable pub zones_parted : List Zone → List ℕ → Bool → ℕ → List OffZone → List OffZone
zones_parted [] image all left zones = []
zones_parted (z ∷ layout) image all left [] = []
zones_parted (z ∷ layout) image all left (zone ∷ zones) =
    zone_parted z (zone_bytes z image) all left zone
    ∷ zones_parted layout image all (left - length (boot_stores z (zone_bytes z image))) zones

-- how many stores a boot makes that is cut after count of them
abbrev pub boot_made : List Zone → ℕ → OffState → ℕ
boot_made layout count off = min count (boot_count layout off.image)

-- the state after the first count stores of a boot, or all
abbrev pub boot_parted : List Zone → ℕ → OffState → OffState
boot_parted layout count off = record {
  image = after_stores off.image (take count (image_boot_stores layout off.image));
  zones = zones_parted layout off.image (nat_le (boot_count layout off.image) count) count off.zones;
}
