-- The bytes of a record that stand in bad blocks: parity does not vouch for them
use Rattle.std.specs.Prelude.{ℕ, ◌-◌, ◌/◌, Bool, if◌then◌else◌, List, [], length, take, drop, map, slice_get, position}
use Rattle.std.specs.Prelude.{option_to_list, Option, Some, None}
use Rattle.std.specs.List.{list_any}
use Rattle.std.specs.Option.{option_and_then}
use Rattle.zone_spec.specs.declared.Kind.TheVariants.{Console as ConsoleKind}
use Rattle.zone_spec.specs.declared.Name.{Name}
use Rattle.zone_spec.specs.declared.Name.TheVariants.{Dump, Console, Pmsg, Ftrace}
use Rattle.zone_spec.specs.declared.PartState.{PartState}
use Rattle.zone_spec.specs.declared.Words.{Words}
use Rattle.zone_spec.specs.declared.Zone.{Zone}
use Rattle.zone_spec.specs.PartStates.{PartStates}
use Rattle.zone_spec.specs.Reading.{ZoneReading, log_places}
use Rattle.zone_spec.specs.Records.{Saved, is_of}
use Rattle.report_spec.specs.declared.Packing.{Packing}
use Rattle.report_spec.specs.declared.Packing.TheVariants.{Plain, Whole, Part}
use Rattle.report_spec.specs.Packed.{RecordShown}
use Rattle.report_spec.specs.Warnings.{is_bad}

-- ---- of a zone

-- whether a place of a zone's data is in a bad block
abbrev pub is_doubtful : (block : ℕ) → List PartState → ℕ → Bool
is_doubtful block states place = list_any is_bad (option_to_list (slice_get states (place / block)))

-- of each byte of a zone's log whether its place is; nothing if no block is bad
abbrev pub log_doubts : Zone → Words → List PartState → List Bool
log_doubts z w states =
    if list_any is_bad states then map (is_doubtful z.block states) (log_places w.start w.size) else []

abbrev pub doubts_by : Option Zone → Option ZoneReading → Option PartStates → List Bool
doubts_by None reading parts = []
doubts_by (Some z) None parts = []
doubts_by (Some z) (Some reading) None = []
doubts_by (Some z) (Some reading) (Some parts) = log_doubts z reading.words parts.blocks

abbrev pub reading_at : List Saved → ℕ → Option ZoneReading
reading_at zones i = option_and_then (λ (zone : Saved). zone.1) (slice_get zones i)

-- of the zone at a place of a layout, as its zones and their parts read
abbrev pub zone_doubts : List Zone → List Saved → List PartStates → Option ℕ → List Bool
zone_doubts layout zones parts None = []
zone_doubts layout zones parts (Some i) = doubts_by (slice_get layout i) (reading_at zones i) (slice_get parts i)

-- ---- of a record

-- of a packed dump it is not known which byte of the text a bad block reaches
abbrev pub plain_place : ℕ → Packing (List ℕ) → Option ℕ
plain_place i Plain = Some i
plain_place i (Whole taken) = None
plain_place i (Part fault text) = None

abbrev pub is_console_zone : Zone → Bool
is_console_zone z = is_of ConsoleKind z.name.kind

-- the place of the zone in which a record's bytes stand as it has them
abbrev pub zone_place : List Zone → Packing (List ℕ) → Name → Option ℕ
zone_place layout packing (Dump index packed) = plain_place index packing
zone_place layout packing Console = position is_console_zone layout
zone_place layout packing Pmsg = None
zone_place layout packing Ftrace = None

-- the last ones, for so many bytes: a dump's record leaves its time line away
abbrev pub last_doubts : ℕ → List Bool → List Bool
last_doubts n doubts = drop (length doubts - n) doubts

-- a record, of each byte of whose text it is known whether it is doubtful
abbrev pub with_doubts : List Zone → List Saved → List PartStates → RecordShown → RecordShown
with_doubts layout zones parts r = record r {
  doubts = last_doubts (length r.content - r.notice)
      (zone_doubts layout zones parts (zone_place layout r.packing r.name));
}

-- ---- of a range of a text

abbrev pub doubts_between : List Bool → ℕ → ℕ → List Bool
doubts_between doubts from to = take (to - from) (drop from doubts)

-- whether a byte between two places is doubtful
abbrev pub has_doubt : List Bool → ℕ → ℕ → Bool
has_doubt doubts from to = list_any (λ doubt. doubt) (doubts_between doubts from to)
