-- What a zone reads in which a boot was cut. Now is its bytes when that boot began, of whose stores in
-- the zone k were made
use Rattle.std.specs.Prelude.{◌≡◌, ℕ, ◌+◌, ◌-◌, ◌≤◌, List, [], length, map, take}
use Rattle.std.specs.List.{range_with_len}
use Rattle.zone_spec.specs.declared.Zone.{Zone}
use Rattle.zone_spec.specs.declared.CallKind.TheVariants.{Erase}
use Rattle.zone_spec.specs.declared.State.TheVariants.{Found}
use Rattle.zone_spec.specs.declared.HeaderSeen.TheVariants.{Pair as SeenPair}
use Rattle.zone_spec.specs.Zones.{IsValidZone}
use Rattle.zone_spec.specs.Parts.{IsImage}
use Rattle.zone_spec.specs.PartReadings.{words_read}
use Rattle.zone_spec.specs.Reading.{ZoneReading, zone_reading, byte_read}
use Rattle.zone_spec.specs.Stores.{after_stores}
use Rattle.zone_spec.specs.Boot.{boot_fixes, boot_stores}
use Rattle.zone_spec.specs.Damage.{IsNotDamagedFurther, BlocksWithinBounds}
use Rattle.zone_spec.specs.Pairs.{header_seen}
use Rattle.zone_spec.specs.Cut.{Cut, cut_pairs, cut_report, words_before}
use Rattle.machine_spec.specs.BootPart.{IsWithinErasure, boot_cut}
use Rattle.damage_laws.specs.Exact.{IsExactReport}
use Rattle.damage_laws.specs.CutCalls.{HeaderReads}

-- the zone's bytes after the boot
abbrev pub after_boot_stores : Zone → List ℕ → ℕ → List ℕ
after_boot_stores z now k = after_stores now (take k (boot_stores z now))

-- a zone reads the same later as now, but that so many bytes fewer are corrected
pub record ReadsAlike (z : Zone) (now later : List ℕ) (mended : ℕ) : Type 0 where
  pub state : (zone_reading z later).state ≡ (zone_reading z now).state
  pub words : (zone_reading z later).words ≡ (zone_reading z now).words
  pub log : (zone_reading z later).log ≡ (zone_reading z now).log
  pub corrected : (zone_reading z later).corrected + mended ≡ (zone_reading z now).corrected

-- so it does before a boot's erasure: each store made is a correction less
abbrev pub CorrectionsKeepReading : Type 0
CorrectionsKeepReading = (z : Zone) (now : List ℕ) (k : ℕ) → IsValidZone z → IsImage z now
    → k ≤ length (boot_fixes z now) → ReadsAlike z now (after_boot_stores z now k) k

-- What a zone reads whose erasure was begun and not finished, later being what stands when the next boot begins: pair 0
-- is the words that the boot read; the header as of a cut call; and where the boot found a log, and its blocks are
-- within bounds, that log for pair 0, the same data from place 0 on for pair 1, and nothing for pair 2
pub record BootCutReads (z : Zone) (now stop later : List ℕ) (cut : Cut) : Type 0 where
  pub before : words_before z cut ≡ (zone_reading z now).words
  pub header : IsNotDamagedFurther z stop later → HeaderReads z cut stop later
  pub log : (zone_reading z now).state ≡ Found → BlocksWithinBounds z stop later (words_read z now).size
      → let seen = header_seen z (words_read z later) (cut_pairs z cut) in let log = (zone_reading z later).log in
      (seen ≡ SeenPair 0 → log ≡ (zone_reading z now).log)
      × (seen ≡ SeenPair 1 → log ≡ map (λ place. byte_read z now place) (range_with_len 0 (words_read z now).size))
      × (seen ≡ SeenPair 2 → log ≡ [])

-- so reads every zone in which a boot was cut within its erasure
abbrev pub BootCutZoneReads : Type 0
BootCutZoneReads = (z : Zone) (now later : List ℕ) (k : ℕ) → IsValidZone z → IsImage z now → IsImage z later
    → IsWithinErasure z now k
    → BootCutReads z now (after_boot_stores z now k) later (boot_cut z now k)

-- what is reported of it is exact: the numbers are the erasure's, and no block is touched
abbrev pub BootCutReportIsExact : Type 0
BootCutReportIsExact = (z : Zone) (now : List ℕ) (k : ℕ) (reading : ZoneReading) → IsValidZone z → IsImage z now
    → IsWithinErasure z now k
    → let r = cut_report z reading (boot_cut z now k) in
    IsExactReport z reading.words (boot_cut z now k) Erase (k - length (boot_fixes z now))
    (length (boot_stores z now) - length (boot_fixes z now)) r × (r.runs ≡ [])
