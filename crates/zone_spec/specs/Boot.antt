-- What a boot stores in a zone, and whether it keeps it (fs/pstore/ram_core.c, persistent_ram_post_init;
-- fs/pstore/ram.c)
use Rattle.std.specs.Prelude.{ℕ, ◌+◌, Bool, true, false, not, ◌&&◌, ◌||◌, if◌then◌else◌, ◌==◌, List, [], ◌∷◌, ◌++◌}
use Rattle.std.specs.Prelude.{flat_map}
use Rattle.zone_spec.specs.declared.Zone.{Zone}
use Rattle.zone_spec.specs.declared.Kind.{Kind}
use Rattle.zone_spec.specs.declared.Kind.TheVariants.{Dump, Ftrace}
use Rattle.zone_spec.specs.declared.State.{State}
use Rattle.zone_spec.specs.declared.State.TheVariants.{Unsigned, Empty, Found}
use Rattle.zone_spec.specs.Parts.{Part, Header, Block, part_bytes, part_at}
use Rattle.zone_spec.specs.PartReadings.{part_reading}
use Rattle.zone_spec.specs.Reading.{ZoneReading, zone_reading, blocks_below}
use Rattle.zone_spec.specs.TimeLines.{has_line}
use Rattle.zone_spec.specs.Stores.{Store, after_stores}
use Rattle.zone_spec.specs.Stages.{Stage, SigWord, stores_in_turn}
use Rattle.zone_spec.specs.Calls.{erase_stages}

-- a store for each byte of the first list that differs from the second's, rising
unfoldable pub fix_stores : ℕ → List ℕ → List ℕ → List Store
fix_stores place [] bytes = []
fix_stores place (b ∷ bs) [] = []
fix_stores place (b ∷ bs) (c ∷ cs) =
    (if b == c then [] else record { place = place; bytes = c ∷ [] } ∷ []) ++ fix_stores (place + 1) bs cs

-- a part's corrected bytes; its parity is not corrected
abbrev pub part_fixes : Zone → List ℕ → Part → List Store
part_fixes z image part = fix_stores (part_at z part) (part_bytes z image part) (part_reading z image part).bytes

-- whether a zone that was found is kept: a dump with a time line, and, by the project's own choice, an
-- ftrace ring that can be appended to
abbrev pub is_kept : Zone → ZoneReading → Kind → Bool
is_kept z reading Dump = has_line reading.log
is_kept z reading Ftrace = (reading.words.start == reading.words.size || reading.words.size == z.cap) && not
    (reading.words.start == z.cap)
is_kept z reading other = false

-- whether a boot leaves a zone in this state without erasing it
abbrev pub keeps_in : Zone → ZoneReading → State → Bool
keeps_in z reading Found = is_kept z reading z.name.kind
keeps_in z reading Empty = true
keeps_in z reading other = false

-- whether a boot leaves a zone with this reading without erasing it
abbrev pub keeps : Zone → ZoneReading → Bool
keeps z reading = keeps_in z reading reading.state

-- the blocks that a boot reads
abbrev pub blocks_read : Zone → ZoneReading → State → List ℕ
blocks_read z reading Found = blocks_below z reading.words.size
blocks_read z reading other = []

-- a boot's corrections of a zone
unfoldable pub boot_fixes : Zone → List ℕ → List Store
boot_fixes z image =
    let reading = zone_reading z image in
    part_fixes z image Header ++ flat_map (λ b. part_fixes z image (Block b)) (blocks_read z reading reading.state)

-- the store of the signature, with which the erasure of an unsigned zone begins
abbrev pub signing : Zone → State → List Stage
signing z Unsigned = SigWord z.sig ∷ []
signing z other = []

-- the stages of a boot's erasure of a zone
unfoldable pub boot_erasure : Zone → List ℕ → List Stage
boot_erasure z image =
    let reading = zone_reading z image in
    if keeps z reading then [] else signing z reading.state ++ erase_stages

-- all stores of a boot in a zone
unfoldable pub boot_stores : Zone → List ℕ → List Store
boot_stores z image = boot_fixes z image ++ stores_in_turn z (boot_erasure z image)
    (after_stores image (boot_fixes z image))

-- what a boot takes the zone to have been told
abbrev pub told_by_boot : Zone → List ℕ → List ℕ
told_by_boot z image = if keeps z (zone_reading z image) then (zone_reading z image).log else []
