-- What a boot reads of all zones before its first store, and what its stores leave
use Rattle.std.specs.Prelude.{◌≡◌, ℕ, ◌<◌, ◌≤◌, List, [], ◌∷◌, ◌++◌, length, slice_get, Some, None}
use Rattle.std.specs.List.{concat}
use Rattle.circular_buffer.specs.Buffer.{buffer}
use Rattle.zone_spec.specs.declared.Zone.{Zone}
use Rattle.zone_spec.specs.Reading.{zone_reading}
use Rattle.zone_spec.specs.Stores.{after_stores}
use Rattle.zone_spec.specs.Boot.{boot_stores, told_by_boot}
use Rattle.prz_read.specs.Saving.{SavedLogs}
use Rattle.prz_region.specs.CutRegion.{CutRegion, span, cut_at}
use Rattle.zone_spec.specs.Parts.{AreBytes}
use Rattle.zone_spec.specs.Layouts.{IsLayout}
use Rattle.ramoops_layout.specs.Laid.{params_of, zones_of}
use Rattle.ramoops.specs.OffSeen.{OffSeen, known_all}
use Rattle.ramoops.specs.Resting.{IsResting}
use Rattle.ramoops.specs.LiveSeen.{LiveSeen}
use Rattle.ramoops.specs.Made.{boot_writes}
use Rattle.ramoops.specs.declared.off.OpenOff.{OpenOff}
use Rattle.ramoops.specs.declared.booting.Prepared.{Prepared}
use Rattle.ramoops.specs.declared.known.KnownZone.{KnownZone}
use Rattle.ramoops.specs.declared.zones.HeldZone.{HeldZone}
use Rattle.ramoops.specs.declared.report.ZoneReport.{ZoneReport}
use Rattle.ramoops.specs.Reports.{report_seen, report_zone}

-- each span has its zone's size
pub record SpansFit (layout : List Zone) (spans : List (List ℕ)) : Type 0 where
  pub count : length spans ≡ length layout
  pub sizes : (i : ℕ) (z : Zone) (bytes : List ℕ) → slice_get layout i ≡ Some z → slice_get spans i ≡ Some bytes
      → length bytes ≡ z.size

-- what is kept of a zone that a boot has finished
abbrev pub held_after : Zone → List ℕ → HeldZone
held_after z bytes = record { told = buffer (told_by_boot z bytes) z.cap; flight = None }

-- the next zone's reading, report and told list are put behind the others
pub record Adds (old new : Prepared) (z : Zone) (bytes : List ℕ) (known : KnownZone) : Type 0 where
  pub zones : new.logs.zones ≡ old.logs.zones
  pub readings : new.logs.readings ≡ old.logs.readings ++ Some (zone_reading z bytes) ∷ []
  pub report : ZoneReport
  pub reports : new.reports.items ≡ old.reports.items ++ report ∷ []
  pub told : report_seen report ≡ report_zone z known (zone_reading z bytes)
  pub held : new.held.items ≡ old.held.items ++ held_after z bytes ∷ []

-- of the first n zones the readings, the reports and the told lists
pub record PreparesTo (layout : List Zone) (spans : List (List ℕ)) (known : List KnownZone) (n : ℕ)
    (p : Prepared) : Type 0 where
  pub zones : p.logs.zones ≡ layout
  pub readings_len : length p.logs.readings ≡ n
  pub reports_len : length p.reports.items ≡ n
  pub held_len : length p.held.items ≡ n
  pub readings : (i : ℕ) (z : Zone) (bytes : List ℕ) → i < n → slice_get layout i ≡ Some z
      → slice_get spans i ≡ Some bytes → slice_get p.logs.readings i ≡ Some (Some (zone_reading z bytes))
  pub reports : (i : ℕ) (z : Zone) (bytes : List ℕ) (k : KnownZone) (r : ZoneReport) → i < n
      → slice_get layout i ≡ Some z → slice_get spans i ≡ Some bytes → slice_get known i ≡ Some k
      → slice_get p.reports.items i ≡ Some r → report_seen r ≡ report_zone z k (zone_reading z bytes)
  pub held : (i : ℕ) (z : Zone) (bytes : List ℕ) (h : HeldZone) → i < n → slice_get layout i ≡ Some z
      → slice_get spans i ≡ Some bytes → slice_get p.held.items i ≡ Some h → h ≡ held_after z bytes

-- of all zones
abbrev pub Prepares : List Zone → List (List ℕ) → List KnownZone → Prepared → Type 0
Prepares layout spans known p = PreparesTo layout spans known (length layout) p

-- of an open machine
abbrev pub PreparesOpen : OpenOff → Prepared → Type 0
PreparesOpen o p = Prepares (zones_of o.layout) o.spans.spans (known_all (length (zones_of o.layout)) o.zones.items) p

-- the logs are the readings of the layout's zones
pub record AreLogs (layout : List Zone) (spans : List (List ℕ)) (logs : SavedLogs) : Type 0 where
  pub zones : logs.zones ≡ layout
  pub len : length logs.readings ≡ length layout
  pub readings : (i : ℕ) (z : Zone) (bytes : List ℕ) → slice_get layout i ≡ Some z → slice_get spans i ≡ Some bytes
      → slice_get logs.readings i ≡ Some (Some (zone_reading z bytes))

-- of the first n zones all boot stores are made, one zone after the other, and no other store
pub record SettlesTo (layout : List Zone) (old new : CutRegion) (n : ℕ) : Type 0 where
  pub count : length new.spans ≡ length old.spans
  pub rest : new.rest ≡ old.rest
  pub made : (i : ℕ) (z : Zone) → i < n → slice_get layout i ≡ Some z
      → span new i ≡ after_stores (span old i) (boot_stores z (span old i))
  pub others : (i : ℕ) → n ≤ i → span new i ≡ span old i
  pub stores : new.made ≡ old.made ++ boot_writes layout old n

abbrev pub Settles : List Zone → CutRegion → CutRegion → Type 0
Settles layout old new = SettlesTo layout old new (length layout)

-- an image that is cut into its zones' spans, with what is known of them
pub record IsOpen (v : OffSeen) (o : OpenOff) : Type 0 where
  pub seen : v ≡ record {
    layout = zones_of o.layout;
    mem = (params_of o.layout).mem;
    image = v.image;
    zones = known_all (length (zones_of o.layout)) o.zones.items;
  }
  pub spans : o.spans ≡ cut_at (zones_of o.layout) v.image
  pub lies : IsLayout (zones_of o.layout) (params_of o.layout).mem
  pub size : length v.image ≡ (params_of o.layout).mem
  pub bytes : AreBytes v.image
  pub known : length o.zones.items ≤ length (zones_of o.layout)
  pub resting : IsResting v

-- what a contract sees of the machine when the image is whole again
abbrev pub seen_off : OpenOff → OffSeen
seen_off o = record {
  layout = zones_of o.layout;
  mem = (params_of o.layout).mem;
  image = concat o.spans.spans ++ o.spans.rest;
  zones = known_all (length (zones_of o.layout)) o.zones.items;
}

-- and when a boot has finished
abbrev pub seen_booted : OpenOff → List HeldZone → LiveSeen
seen_booted o held = record {
  layout = zones_of o.layout;
  mem = (params_of o.layout).mem;
  spans = o.spans;
  zones = held;
  cursor = 0;
}
