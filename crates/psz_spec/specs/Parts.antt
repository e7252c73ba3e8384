-- Where in a storage the logs of the listed records stand: a reader needs each zone's header, and these bytes
use Rattle.std.specs.Prelude.{ℕ, ◌+◌, ◌-◌, false, List, [], ◌∷◌, ◌++◌, map, filter, flat_map, slice_range, Option, Some}
use Rattle.std.specs.Prelude.{None}
use Rattle.psz_spec.specs.declared.Kind.{Kind}
use Rattle.psz_spec.specs.declared.Kind.TheVariants.{Pmsg, Console, Ftrace, Dump}
use Rattle.psz_spec.specs.declared.Zone.{Zone}
use Rattle.psz_spec.specs.declared.Words.{Words}
use Rattle.psz_spec.specs.declared.Machine.{Machine}
use Rattle.psz_spec.specs.declared.DumpHeader.{DumpHeader}
use Rattle.psz_spec.specs.declared.State.{State}
use Rattle.psz_spec.specs.declared.State.TheVariants.{Found}
use Rattle.psz_spec.specs.declared.Span.{Span}
use Rattle.psz_spec.specs.declared.Log.{Log}
use Rattle.psz_spec.specs.declared.Part.{Part}
use Rattle.psz_spec.specs.declared.Name.{Name}
use Rattle.psz_spec.specs.declared.Name.TheVariants.{Dump as DumpName, Ftrace as FtraceName, Pmsg as PmsgName}
use Rattle.psz_spec.specs.declared.Name.TheVariants.{Console as ConsoleName}
use Rattle.psz_spec.specs.Headers.{words_of, header_len, dump_header}
use Rattle.psz_spec.specs.States.{zone_bytes, data_of, state_of}
use Rattle.psz_spec.specs.Records.{Listed, dump_content, ftrace_listed, is_of}

-- of a ring first what stands from its start on, then what stands before
abbrev pub ring_log : Zone → Words → Log
ring_log z words = record {
  first = record { at = z.at + (12 + words.start); len = words.len - words.start };
  second = record { at = z.at + 12; len = words.start };
}

-- what follows a dump's header
abbrev pub dump_log : Machine → Zone → Words → Log
dump_log machine z words = record {
  first = record { at = z.at + (12 + header_len machine); len = words.len - header_len machine };
  second = record { at = z.at + 12; len = 0 };
}

abbrev pub part_with : Machine → Zone → Kind → List ℕ → Part
part_with machine z Dump bytes = record {
  zone = z;
  log = dump_log machine z (words_of machine bytes);
  header = Some (dump_header machine (data_of bytes));
}
part_with machine z Pmsg bytes = record { zone = z; log = ring_log z (words_of machine bytes); header = None }
part_with machine z Console bytes = record { zone = z; log = ring_log z (words_of machine bytes); header = None }
part_with machine z Ftrace bytes = record { zone = z; log = ring_log z (words_of machine bytes); header = None }

abbrev pub part_if : State → Part → Option Part
part_if Found part = Some part
part_if other part = None

-- what the next boot lists of a zone, or None. It needs the zone's first 52 bytes alone
unfoldable pub part_of : Machine → Zone → List ℕ → Option Part
part_of machine z bytes = part_if (state_of machine z bytes) (part_with machine z z.kind bytes)

abbrev pub as_list : Option Part → List Part
as_list None = []
as_list (Some part) = part ∷ []

abbrev pub of_kind : Kind → List Zone → List Zone
of_kind kind zones = filter (λ (z : Zone). is_of kind z.kind) zones

-- the zones in the order in which the kernel reads them
unfoldable pub read_order : List Zone → List Zone
read_order zones = of_kind Dump zones ++ of_kind Ftrace zones ++ of_kind Pmsg zones ++ of_kind Console zones

-- the parts of zones, in their order
unfoldable pub parts_of : Machine → List Zone → List ℕ → List Part
parts_of machine zones image =
    flat_map (λ (z : Zone). as_list (part_of machine z (zone_bytes z image))) zones

-- ---- records from parts

abbrev pub span_bytes : List ℕ → Span → List ℕ
span_bytes image span = slice_range image span.at (span.at + span.len)

abbrev pub log_bytes : List ℕ → Log → List ℕ
log_bytes image log = span_bytes image log.first ++ span_bytes image log.second

-- the name of a part's record
abbrev pub name_by : Kind → ℕ → Option DumpHeader → Name
name_by Dump index (Some header) = DumpName index header.packed
name_by Dump index None = DumpName index false
name_by Ftrace index header = FtraceName
name_by Pmsg index header = PmsgName
name_by Console index header = ConsoleName

abbrev pub part_name : Part → Name
part_name part = name_by part.zone.kind part.zone.index part.header

-- the content of a part's record: of a dump that is not packed, its line and its log
abbrev pub content_by : Option DumpHeader → List ℕ → List ℕ
content_by None log = log
content_by (Some header) log = dump_content header log

abbrev pub part_content : List ℕ → Part → List ℕ
part_content image part = content_by part.header (log_bytes image part.log)

abbrev pub part_record : List ℕ → Part → Listed
part_record image part = record {
  name = part_name part;
  logs = part_content image part ∷ [];
  header = part.header;
}

-- the records of parts by kind; those of the ftrace zones make one together
abbrev pub records_from : List ℕ → List Part → List Part → List Part → List Part → List Listed
records_from image dumps traces pmsg console =
    map (part_record image) dumps ++ ftrace_listed (map (part_content image) traces)
    ++ map (part_record image) pmsg ++ map (part_record image) console
