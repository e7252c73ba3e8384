-- Which dump zone the next dump goes to, and how the dumps are counted (fs/pstore/zone.c, psz_kmsg_recover_meta)
use Rattle.std.specs.Prelude.{ℕ, ◌+◌, ◌^◌, ◌==◌, nat_lt, nat_le, Bool, true, false, ◌&&◌, if◌then◌else◌, List, length}
use Rattle.std.specs.Prelude.{filter}
use Rattle.std.specs.List.{fold}
use Rattle.psz_spec.specs.declared.Kind.TheVariants.{Dump}
use Rattle.psz_spec.specs.declared.Zone.{Zone}
use Rattle.psz_spec.specs.declared.Machine.{Machine}
use Rattle.psz_spec.specs.declared.DumpHeader.{DumpHeader}
use Rattle.psz_spec.specs.declared.Cursor.{Cursor}
use Rattle.psz_spec.specs.declared.State.{State}
use Rattle.psz_spec.specs.declared.State.TheVariants.{Erased, Broken, Found}
use Rattle.psz_spec.specs.Headers.{dump_header}
use Rattle.psz_spec.specs.States.{zone_bytes, data_of, state_of}
use Rattle.psz_spec.specs.Records.{is_of}

-- whether a zone has a dump's header; an erased one has it still
abbrev pub has_header : State → Bool
has_header Erased = true
has_header Broken = true
has_header Found = true
has_header other = false

abbrev pub higher : ℕ → ℕ → ℕ
higher m n = if nat_lt m n then n else m

-- times before 1970 are never the latest; of equal times the later zone counts
abbrev pub is_latest : DumpHeader → Cursor → Bool
is_latest h c = nat_lt h.secs (2 ^ 63) && nat_le c.latest h.secs

abbrev pub with_header : ℕ → DumpHeader → Cursor → Cursor
with_header index h c = record {
  latest = if is_latest h c then h.secs else c.latest;
  next = if is_latest h c then index + 1 else c.next;
  oopses = if h.reason == 2 then higher c.oopses h.count else c.oopses;
  panics = if h.reason == 1 then higher c.panics h.count else c.panics;
}

-- one zone more, by its bytes; the first 52 are enough
unfoldable pub with_bytes : Machine → Zone → List ℕ → Cursor → Cursor
with_bytes machine z bytes c =
    if has_header (state_of machine z bytes) then with_header z.index (dump_header machine (data_of bytes)) c else c

abbrev pub with_zone : Machine → List ℕ → Cursor → Zone → Cursor
with_zone machine image c z = with_bytes machine z (zone_bytes z image) c

abbrev pub first_cursor : Cursor
first_cursor = record { latest = 0; next = 0; oopses = 0; panics = 0 }

abbrev pub dump_zones : List Zone → List Zone
dump_zones zones = filter (λ (z : Zone). is_of Dump z.kind) zones

unfoldable pub cursor_of : Machine → List Zone → List ℕ → Cursor
cursor_of machine zones image = fold (with_zone machine image) first_cursor (dump_zones zones)

-- the zone of the next dump; behind the last zone it is the first
abbrev pub next_zone : Machine → List Zone → List ℕ → ℕ
next_zone machine zones image =
    if (cursor_of machine zones image).next == length (dump_zones zones) then 0 else (cursor_of machine zones image).next
