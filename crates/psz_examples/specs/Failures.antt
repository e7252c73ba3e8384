-- Where the kernel fails, what is listed there in its place, and where in a storage it stands
use Rattle.std.specs.Prelude.{slice_set, ◌≡◌, ℕ, true, false, List, [], ◌∷◌, ◌++◌, codes, Some, None}
use Rattle.psz_spec.specs.declared.Kind.TheVariants.{Pmsg, Dump}
use Rattle.psz_spec.specs.declared.Machine.TheVariants.{Aligned}
use Rattle.psz_spec.specs.declared.Zone.{Zone}
use Rattle.psz_spec.specs.declared.Span.{Span}
use Rattle.psz_spec.specs.declared.Part.{Part}
use Rattle.psz_spec.specs.declared.KernelFault.TheVariants.{StartBeyond, ShortDump, EmptyPacked}
use Rattle.psz_spec.specs.declared.Name.TheVariants.{Dump as DumpName, Pmsg as PmsgName}
use Rattle.psz_spec.specs.Failures.{kernel_fault}
use Rattle.psz_spec.specs.Parts.{read_order, parts_of, part_name}
use Rattle.psz_spec.specs.Records.{listed_in}
use Rattle.psz_examples.specs.Layouts.{zone}
use Rattle.psz_examples.specs.Headers.{small, wide_front}
use Rattle.psz_examples.specs.Rings.{ring}
use Rattle.psz_examples.specs.Listings.{dump_bytes, oops_at, storage, storage_zones}

-- a length of 39, one less than the header has
abbrev pub ShortDumpFaultRow : Type 0
ShortDumpFaultRow = kernel_fault Aligned small (slice_set (slice_set wide_front 4 39) 5 0) ≡ Some ShortDump

-- a packed dump of a length of 40, and a longer one
abbrev pub EmptyPackedRow : Type 0
EmptyPackedRow = kernel_fault Aligned small (slice_set (slice_set wide_front 4 40) 5 0) ≡ Some EmptyPacked

abbrev pub PackedRow : Type 0
PackedRow = kernel_fault Aligned small (slice_set (slice_set wide_front 4 41) 5 0) ≡ None

abbrev pub StartBeyondRow : Type 0
StartBeyondRow = kernel_fault Aligned (zone Pmsg 0 0 20) (ring 3 5) ≡ Some StartBeyond

-- a length above the capacity is passed over, by the kernel too
abbrev pub PassedOverRow : Type 0
PassedOverRow = kernel_fault Aligned (zone Pmsg 0 0 20) (ring 9 5) ≡ None

-- a pmsg zone whose start is above its length, a dump that is too short, and a dump: the kernel lists nothing
unfoldable pub broken_storage : List ℕ
broken_storage = ring 3 5 ++ dump_bytes 39 0 60 3 (codes "gone") ++ dump_bytes 44 0 90 4 (codes "text")

unfoldable pub broken_zones : List Zone
broken_zones = zone Pmsg 0 0 20 ∷ zone Dump 0 20 56 ∷ zone Dump 1 76 56 ∷ []

-- the dump is listed
abbrev pub OthersListedRow : Type 0
OthersListedRow = listed_in Aligned broken_zones broken_storage
    ≡ record {
      name = DumpName 1 false;
      logs = codes "Oops: Total 4 times\ntext" ∷ [];
      header = Some (oops_at 90 false 4);
    } ∷ []

abbrev pub span : ℕ → ℕ → Span
span at len = record { at = at; len = len }

abbrev pub first_part : Part
first_part = record {
  zone = zone Dump 0 16 56;
  log = record { first = span 68 4; second = span 28 0 };
  header = Some (oops_at 60 false 3);
}

abbrev pub second_part : Part
second_part = record {
  zone = zone Dump 2 128 56;
  log = record { first = span 180 3; second = span 140 0 };
  header = Some (oops_at 90 true 5);
}

-- a ring that went round: `sa` stands from 14 on, `ye` from 12 on
abbrev pub third_part : Part
third_part = record {
  zone = zone Pmsg 0 0 16;
  log = record { first = span 14 2; second = span 12 2 };
  header = None;
}

abbrev pub PartsRow : Type 0
PartsRow = parts_of Aligned (read_order storage_zones) storage ≡ first_part ∷ second_part ∷ third_part ∷ []

abbrev pub PackedNameRow : Type 0
PackedNameRow = part_name second_part ≡ DumpName 2 true

abbrev pub RingNameRow : Type 0
RingNameRow = part_name third_part ≡ PmsgName
