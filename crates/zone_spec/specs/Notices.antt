-- What a record's content ends with where its kind has parity (fs/pstore/ram.c, persistent_ram_ecc_string)
use Rattle.std.specs.Prelude.{ℕ, ◌+◌, Bool, ◌&&◌, if◌then◌else◌, nat_lt, ◌==◌, List, [], ◌∷◌, ◌++◌, filter, flat_map}
use Rattle.std.specs.Prelude.{sum_by, codes, decimal}
use Rattle.std.specs.List.{list_any}
use Rattle.zone_spec.specs.declared.Zone.{Zone}
use Rattle.zone_spec.specs.declared.Kind.TheVariants.{Dump, Console, Ftrace, Pmsg}
use Rattle.zone_spec.specs.declared.Name.{Name}
use Rattle.zone_spec.specs.declared.Name.TheVariants.{Dump as DumpName, Console as ConsoleName, Pmsg as PmsgName}
use Rattle.zone_spec.specs.declared.Name.TheVariants.{Ftrace as FtraceName}
use Rattle.zone_spec.specs.Reading.{ZoneReading}
use Rattle.zone_spec.specs.Records.{Saved, Listed, is_of, found}

-- whether a zone belongs to a record; an ftrace record has all ftrace zones
abbrev pub is_in : Name → Zone → Bool
is_in (DumpName index packed) z = is_of Dump z.name.kind && (z.name.index == index)
is_in ConsoleName z = is_of Console z.name.kind
is_in PmsgName z = is_of Pmsg z.name.kind
is_in FtraceName z = is_of Ftrace z.name.kind

-- the text for these counts
abbrev pub notice_text : ℕ → ℕ → List ℕ
notice_text corrected bad =
    10 ∷ (if corrected + bad == 0 then codes "ECC: No errors detected"
    else codes "ECC: " ++ decimal corrected ++ codes " Corrected bytes, " ++ decimal bad
    ++ codes " unrecoverable blocks") ++ 10 ∷ []

-- a record's notice: what header and blocks of its zones that were found count; none where its zones
-- have no parity
abbrev pub notice : List Saved → Name → List ℕ
notice zones name =
    let own = filter (λ (zone : Saved). is_in name zone.0) zones in
    let readings = flat_map (λ (zone : Saved). found zone.1) own in
    if list_any (λ (zone : Saved). nat_lt 0 zone.0.parity) own
    then notice_text (sum_by (λ (r : ZoneReading). r.corrected) readings) (sum_by (λ (r : ZoneReading). r.bad) readings)
    else []

-- a record's content with its notice
abbrev pub content : List Saved → Listed → List ℕ
content zones entry = entry.content ++ notice zones entry.name
