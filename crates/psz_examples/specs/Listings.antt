-- What the next boot lists
use Rattle.std.specs.Prelude.{slice_set, ◌≡◌, ℕ, true, false, Bool, List, [], ◌∷◌, ◌++◌, codes, Some, None}
use Rattle.psz_spec.specs.declared.Kind.TheVariants.{Pmsg, Console, Ftrace, Dump}
use Rattle.psz_spec.specs.declared.Machine.TheVariants.{Aligned, BigEndian}
use Rattle.psz_spec.specs.declared.Zone.{Zone}
use Rattle.psz_spec.specs.declared.DumpHeader.{DumpHeader}
use Rattle.psz_spec.specs.declared.Name.TheVariants.{Dump as DumpName, Ftrace as FtraceName, Pmsg as PmsgName}
use Rattle.psz_spec.specs.declared.Name.TheVariants.{Console as ConsoleName}
use Rattle.psz_spec.specs.Records.{listed_in, name_text, total_line}
use Rattle.psz_spec.specs.Cursor.{cursor_of, next_zone}
use Rattle.psz_examples.specs.Layouts.{zone}
use Rattle.psz_examples.specs.Rings.{ring, big_ring}

-- a dump zone of 56 bytes: of a length, packed or not, at so many seconds, of this count, and four bytes
abbrev pub dump_bytes : ℕ → ℕ → ℕ → ℕ → List ℕ → List ℕ
dump_bytes len packed secs count text =
    68 ∷ 66 ∷ 71 ∷ 67 ∷ len ∷ 0 ∷ 0 ∷ 0 ∷ 0 ∷ 0 ∷ 0 ∷ 0
    ∷ 229 ∷ 58 ∷ 252 ∷ 77 ∷ 0 ∷ 0 ∷ 0 ∷ 0 ∷ secs ∷ 0 ∷ 0 ∷ 0 ∷ 0 ∷ 0 ∷ 0 ∷ 0
    ∷ 7 ∷ 0 ∷ 0 ∷ 0 ∷ 0 ∷ 0 ∷ 0 ∷ 0 ∷ packed ∷ 0 ∷ 0 ∷ 0 ∷ count ∷ 0 ∷ 0 ∷ 0 ∷ 2 ∷ 0 ∷ 0 ∷ 0 ∷ 0 ∷ 0 ∷ 0 ∷ 0 ∷ text

-- a pmsg, a dump, an erased dump and a packed one
unfoldable pub storage : List ℕ
storage =
    67 ∷ 66 ∷ 71 ∷ 67 ∷ 4 ∷ 0 ∷ 0 ∷ 0 ∷ 2 ∷ 0 ∷ 0 ∷ 0 ∷ codes "yesa"
    ++ dump_bytes 44 0 60 3 (codes "text") ++ dump_bytes 0 0 90 4 (codes "gone") ++ dump_bytes 43 1 90 5 (codes "zip.")

unfoldable pub storage_zones : List Zone
storage_zones =
    zone Pmsg 0 0 16 ∷ zone Dump 0 16 56 ∷ zone Dump 1 72 56 ∷ zone Dump 2 128 56 ∷ []

abbrev pub oops_at : ℕ → Bool → ℕ → DumpHeader
oops_at secs packed count = record {
  magic = 0x4dfc3ae5;
  secs = secs;
  nanos = 7;
  packed = packed;
  count = count;
  reason = 2;
}

-- a packed dump has no line
abbrev pub ListingRow : Type 0
ListingRow = listed_in Aligned storage_zones storage
    ≡ record {
      name = DumpName 0 false;
      logs = codes "Oops: Total 3 times\ntext" ∷ [];
      header = Some (oops_at 60 false 3);
    }
    ∷ record { name = DumpName 2 true; logs = codes "zip" ∷ []; header = Some (oops_at 90 true 5) }
    ∷ record { name = PmsgName; logs = codes "saye" ∷ []; header = None } ∷ []

-- the third zone is the newest, of equal times the last: the next dump goes to the first
abbrev pub NextRow : Type 0
NextRow = next_zone Aligned storage_zones storage ≡ 0

abbrev pub TotalRow : Type 0
TotalRow = total_line (oops_at 60 false 16) ≡ codes "Oops: Total 16 times\n"

-- the count is shown as a signed number
abbrev pub NegativeRow : Type 0
NegativeRow = total_line (oops_at 60 false 0xffffffff) ≡ codes "Oops: Total -1 times\n"

abbrev pub UnknownRow : Type 0
UnknownRow = total_line (record { magic = 0; secs = 0; nanos = 0; packed = false; count = 0; reason = 5 })
    ≡ codes "Unknown: Total 0 times\n"

abbrev pub NameRow : Type 0
NameRow = name_text (DumpName 12 true) ≡ codes "dmesg-pstore_blk-12.enc.z"

-- a pmsg, a console, two ftrace zones and a dump, in the order in which they lie
unfoldable pub all_kinds_storage : List ℕ
all_kinds_storage =
    ring 8 3 ++ slice_set (ring 3 3) 0 70 ++ slice_set (ring 2 2) 0 71 ++ slice_set (ring 8 1) 0 71
    ++ dump_bytes 44 0 60 3 (codes "text")

unfoldable pub all_kinds_zones : List Zone
all_kinds_zones =
    zone Pmsg 0 0 20 ∷ zone Console 0 20 20 ∷ zone Ftrace 0 40 20 ∷ zone Ftrace 1 60 20 ∷ zone Dump 0 80 56 ∷ []

-- dumps, then ftrace with a log of each of its zones, pmsg, console
abbrev pub AllListedRow : Type 0
AllListedRow = listed_in Aligned all_kinds_zones all_kinds_storage
    ≡ record {
      name = DumpName 0 false;
      logs = codes "Oops: Total 3 times\ntext" ∷ [];
      header = Some (oops_at 60 false 3);
    }
    ∷ record { name = FtraceName; logs = codes "ab" ∷ codes "bcdefgha" ∷ []; header = None }
    ∷ record { name = PmsgName; logs = codes "defghabc" ∷ []; header = None }
    ∷ record { name = ConsoleName; logs = codes "abc" ∷ []; header = None } ∷ []

-- a dump of 60 seconds, an erased one of 90, and a zone without a signature: an erased dump counts on
abbrev pub ErasedCountsRow : Type 0
ErasedCountsRow = cursor_of Aligned (zone Dump 0 16 56 ∷ zone Dump 1 72 56 ∷ zone Dump 2 0 56 ∷ []) storage
    ≡ record { latest = 90; next = 2; oopses = 4; panics = 0 }

-- the highest byte of the first dump's seconds is 255, a time before 1970: it is not the latest, and counts
abbrev pub NegativeTimeRow : Type 0
NegativeTimeRow = cursor_of Aligned (zone Dump 0 16 56 ∷ []) (slice_set storage 43 255)
    ≡ record { latest = 0; next = 0; oopses = 3; panics = 0 }

-- the first dump's reason is 1
abbrev pub PanicCountRow : Type 0
PanicCountRow = cursor_of Aligned storage_zones (slice_set storage 60 1)
    ≡ record { latest = 90; next = 3; oopses = 5; panics = 3 }

-- ---- of a big-endian machine

-- a dump zone of 56 bytes, as `dump_bytes`
abbrev pub big_dump_bytes : ℕ → ℕ → ℕ → ℕ → List ℕ → List ℕ
big_dump_bytes len packed secs count text =
    67 ∷ 71 ∷ 66 ∷ 68 ∷ 0 ∷ 0 ∷ 0 ∷ len ∷ 0 ∷ 0 ∷ 0 ∷ 0
    ∷ 77 ∷ 252 ∷ 58 ∷ 229 ∷ 0 ∷ 0 ∷ 0 ∷ 0 ∷ 0 ∷ 0 ∷ 0 ∷ 0 ∷ 0 ∷ 0 ∷ 0 ∷ secs
    ∷ 0 ∷ 0 ∷ 0 ∷ 0 ∷ 0 ∷ 0 ∷ 0 ∷ 7 ∷ packed ∷ 0 ∷ 0 ∷ 0 ∷ 0 ∷ 0 ∷ 0 ∷ count ∷ 0 ∷ 0 ∷ 0 ∷ 2 ∷ 0 ∷ 0 ∷ 0 ∷ 0 ∷ text

-- a pmsg, a console, a dump and a packed one
unfoldable pub big_storage : List ℕ
big_storage =
    big_ring 8 3 ++ slice_set (big_ring 3 3) 3 70 ++ big_dump_bytes 44 0 60 3 (codes "text")
    ++ big_dump_bytes 43 1 90 5 (codes "zip.")

unfoldable pub big_zones : List Zone
big_zones = zone Pmsg 0 0 20 ∷ zone Console 0 20 20 ∷ zone Dump 0 40 56 ∷ zone Dump 1 96 56 ∷ []

abbrev pub BigListedRow : Type 0
BigListedRow = listed_in BigEndian big_zones big_storage
    ≡ record {
      name = DumpName 0 false;
      logs = codes "Oops: Total 3 times\ntext" ∷ [];
      header = Some (oops_at 60 false 3);
    }
    ∷ record { name = DumpName 1 true; logs = codes "zip" ∷ []; header = Some (oops_at 90 true 5) }
    ∷ record { name = PmsgName; logs = codes "defghabc" ∷ []; header = None }
    ∷ record { name = ConsoleName; logs = codes "abc" ∷ []; header = None } ∷ []

-- the last zone has the newest dump
abbrev pub BigNextRow : Type 0
BigNextRow = cursor_of BigEndian big_zones big_storage ≡ record { latest = 90; next = 2; oopses = 5; panics = 0 }

-- to a little-endian machine it is empty
abbrev pub OtherOrderListsNothingRow : Type 0
OtherOrderListsNothingRow = listed_in Aligned big_zones big_storage ≡ []
