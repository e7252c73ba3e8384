-- The records of small storages, and how their zones read
use Rattle.std.specs.Prelude.{◌≡◌, true, false, List, [], ◌∷◌, map, codes, Some, None}
use Rattle.psz_spec.specs.declared.Kind.TheVariants.{Dump, Pmsg}
use Rattle.psz_spec.specs.declared.Machine.TheVariants.{Aligned, BigEndian}
use Rattle.psz_spec.specs.declared.DumpHeader.{DumpHeader}
use Rattle.psz_spec.specs.Records.{listed_in}
use Rattle.psz_spec.specs.States.{zone_bytes}
use Rattle.zone_spec.specs.declared.Name.TheVariants.{Dump as DumpName, Ftrace as FtraceName, Pmsg as PmsgName}
use Rattle.zone_spec.specs.declared.Name.TheVariants.{Console as ConsoleName}
use Rattle.zone_spec.specs.declared.State.TheVariants.{Empty, Found}
use Rattle.zone_spec.specs.declared.Kind.TheVariants.{Dump as DumpKind}
use Rattle.zone_spec.specs.declared.params.ByteOrder.TheVariants.{Big}
use Rattle.storage_spec.specs.Zones.{zone_of, reading_of}
use Rattle.storage_spec.specs.Records.{time_of, held_of}
use Rattle.psz_examples.specs.Layouts.{zone}
use Rattle.psz_examples.specs.Listings.{storage, storage_zones, all_kinds_storage, all_kinds_zones, big_storage}
use Rattle.psz_examples.specs.Listings.{big_zones}

-- a pmsg, a dump of 60 s and 7 ns, an erased dump, and a packed one of 90 s
abbrev pub HeldRow : Type 0
HeldRow = map held_of (listed_in Aligned storage_zones storage)
    ≡ record {
      name = DumpName 0 false;
      time = Some (record { secs = 60; micros = 0 });
      content = codes "Oops: Total 3 times\ntext";
      notice = [];
    }
    ∷ record {
      name = DumpName 2 true;
      time = Some (record { secs = 90; micros = 0 });
      content = codes "zip";
      notice = [];
    }
    ∷ record { name = PmsgName; time = None; content = codes "saye"; notice = [] } ∷ []

-- the logs of the ftrace zones have no whole entry
abbrev pub AllHeldRow : Type 0
AllHeldRow = map held_of (listed_in Aligned all_kinds_zones all_kinds_storage)
    ≡ record {
      name = DumpName 0 false;
      time = Some (record { secs = 60; micros = 0 });
      content = codes "Oops: Total 3 times\ntext";
      notice = [];
    }
    ∷ record { name = FtraceName; time = None; content = []; notice = [] }
    ∷ record { name = PmsgName; time = None; content = codes "defghabc"; notice = [] }
    ∷ record { name = ConsoleName; time = None; content = codes "abc"; notice = [] } ∷ []

-- a dump of real hardware: 2026-11-29 11:00:12.988671315
abbrev pub TimeRow : Type 0
TimeRow = time_of (record {
  magic = 0x4dfc3ae5;
  secs = 1795950012;
  nanos = 988671315;
  packed = false;
  count = 5;
  reason = 2;
})
    ≡ Some (record { secs = 1795950012; micros = 988671 })

abbrev pub NoTimeRow : Type 0
NoTimeRow = time_of (record { magic = 0x4dfc3ae5; secs = 0; nanos = 5000; packed = false; count = 1; reason = 2 }) ≡ None

-- one second before 1970, in two's complement
abbrev pub EarlyRow : Type 0
EarlyRow = time_of (record {
  magic = 0x4dfc3ae5;
  secs = 18446744073709551615;
  nanos = 0;
  packed = false;
  count = 1;
  reason = 2;
})
    ≡ None

-- the third zone of the storage is an erased dump
abbrev pub ErasedRow : Type 0
ErasedRow = reading_of Aligned (zone Dump 1 72 56) (zone_bytes (zone Dump 1 72 56) storage)
    ≡ record {
      state = Empty;
      words = record { sig = 0x43474244; start = 0; size = 0 };
      log = [];
      corrected = 0;
      bad = 0;
    }

-- its first is a pmsg of four bytes that went round
abbrev pub FoundRow : Type 0
FoundRow = reading_of Aligned (zone Pmsg 0 0 16) (zone_bytes (zone Pmsg 0 0 16) storage)
    ≡ record {
      state = Found;
      words = record { sig = 0x43474243; start = 2; size = 4 };
      log = [];
      corrected = 0;
      bad = 0;
    }

-- ---- of a big-endian machine

abbrev pub BigHeldRow : Type 0
BigHeldRow = map held_of (listed_in BigEndian big_zones big_storage)
    ≡ record {
      name = DumpName 0 false;
      time = Some (record { secs = 60; micros = 0 });
      content = codes "Oops: Total 3 times\ntext";
      notice = [];
    }
    ∷ record {
      name = DumpName 1 true;
      time = Some (record { secs = 90; micros = 0 });
      content = codes "zip";
      notice = [];
    }
    ∷ record { name = PmsgName; time = None; content = codes "defghabc"; notice = [] }
    ∷ record { name = ConsoleName; time = None; content = codes "abc"; notice = [] } ∷ []

abbrev pub BigFoundRow : Type 0
BigFoundRow = reading_of BigEndian (zone Pmsg 0 0 20) (zone_bytes (zone Pmsg 0 0 20) big_storage)
    ≡ record {
      state = Found;
      words = record { sig = 0x43474243; start = 3; size = 8 };
      log = [];
      corrected = 0;
      bad = 0;
    }

abbrev pub BigZoneRow : Type 0
BigZoneRow = zone_of BigEndian (zone Dump 1 96 56)
    ≡ record {
      name = record { kind = DumpKind; index = 1 };
      at = 96;
      size = 56;
      cap = 44;
      blocks = 0;
      parity = 0;
      sig = 0x43474244;
      block = 0;
      byte_order = Big;
    }
