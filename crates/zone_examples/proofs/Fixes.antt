-- A boot's stores where the parts of a zone are given
use Rattle.std.proofs.Common.{◌≡◌, ℕ, zero, suc, List, ◌++◌, flat_map, if◌then◌else◌, [], refl, ap, ap₂, ◌∙◌}
use Rattle.zone_spec.specs.declared.Zone.{Zone}
use Rattle.zone_spec.specs.Parts.{Part, Header, Block, part_at, part_bytes}
use Rattle.zone_spec.specs.PartReadings.{PartReading, part_reading}
use Rattle.zone_spec.specs.Reading.{ZoneReading, zone_reading}
use Rattle.zone_spec.specs.Stores.{Store, after_stores}
use Rattle.zone_spec.specs.Stages.{Stage, stores_in_turn}
use Rattle.zone_spec.specs.Calls.{erase_stages}
use Rattle.zone_spec.specs.Boot.{fix_stores, keeps, blocks_read, signing, boot_fixes, boot_erasure, boot_stores}
use Rattle.zone_examples.proofs.GivenParts.{reading_of_parts, of_parts, parts_given}

-- the corrections of a zone whose parts read so
abbrev pub fixes_by : Zone → List ℕ → ZoneReading → (Part → PartReading) → List Store
fixes_by z image reading part =
    fix_stores (part_at z Header) (part_bytes z image Header) (part Header).bytes
    ++ flat_map (λ b. fix_stores (part_at z (Block b)) (part_bytes z image (Block b)) (part (Block b)).bytes)
    (blocks_read z reading reading.state)

abbrev pub erasure_by : Zone → ZoneReading → List Stage
erasure_by z reading = if keeps z reading then [] else signing z reading.state ++ erase_stages

pub given_fixes : (z : Zone) (image : List ℕ) (header first second : PartReading)
    → part_reading z image Header ≡ header → part_reading z image (Block 0) ≡ first
    → part_reading z image (Block 1) ≡ second
    → boot_fixes z image ≡ fixes_by z image (reading_of_parts z (parts_given z image header first second))
    (parts_given z image header first second)
unfolding boot_fixes
given_fixes z image header first second h f s =
    ap (λ reading. fixes_by z image reading (part_reading z image)) (of_parts z image)
    ∙ ap (λ part. fixes_by z image (reading_of_parts z part) part) (λ i part. same part i)
  where
    same : (part : Part) → part_reading z image part ≡ parts_given z image header first second part
    same Header = h
    same (Block zero) = f
    same (Block (suc zero)) = s
    same (Block (suc (suc b))) = refl

pub given_erasure : (z : Zone) (image : List ℕ) (reading : ZoneReading) → zone_reading z image ≡ reading
    → boot_erasure z image ≡ erasure_by z reading
unfolding boot_erasure
given_erasure z image reading e = ap (erasure_by z) e

pub given_boot : (z : Zone) (image : List ℕ) (fixes : List Store) (stages : List Stage) → boot_fixes z image ≡ fixes
    → boot_erasure z image ≡ stages
    → boot_stores z image ≡ fixes ++ stores_in_turn z stages (after_stores image fixes)
unfolding boot_stores
given_boot z image fixes stages f g = ap₂ (λ fs gs. fs ++ stores_in_turn z gs (after_stores image fs)) f g
