-- Layouts of parameters
use Rattle.std.specs.Prelude.{◌≡◌, ℕ, ◌+◌, ◌*◌, [], ◌∷◌, ◌++◌, map, Ok, Err}
use Rattle.std.specs.List.{range_with_len}
use Rattle.zone_spec.specs.declared.Zone.{Zone}
use Rattle.zone_spec.specs.declared.ZoneName.{ZoneName}
use Rattle.zone_spec.specs.declared.params.Order.TheVariants.{FtracePmsg, PmsgFtrace}
use Rattle.zone_spec.specs.declared.params.Params.{Params}
use Rattle.zone_spec.specs.declared.params.LayoutFault.TheVariants.{NoMemory, NoZone, TooLarge, EccTooLarge, NoRoom}
use Rattle.zone_spec.specs.declared.params.LayoutFault.TheVariants.{ZoneTooSmall, EccInvalid, CpusBad, BlockBad}
use Rattle.zone_spec.specs.Layout.{layout_of}
use Rattle.zone_examples.specs.Zones.{console, pmsg, dump, ftrace, lone_console, four_zones, two_processors}
use Rattle.zone_examples.specs.Zones.{console_of_two}
use Rattle.zone_spec.specs.declared.params.ByteOrder.TheVariants.{Little}

-- what is not given: no memory, zones of 4096 bytes, no parity, one processor, blocks of 128 bytes
abbrev pub default : Params
default = record {
  mem = 0;
  dump = 4096;
  console = 4096;
  ftrace = 4096;
  pmsg = 4096;
  ecc = 0;
  cpus = 1;
  ftrace_sig = 0;
  block = 128;
  ecc_dump = 0;
  ecc_console = 0;
  ecc_ftrace = 0;
  ecc_pmsg = 0;
  order = FtracePmsg;
  byte_order = Little;
}

-- so many parity bytes for every kind
abbrev pub with_parity : ℕ → Params → Params
with_parity r p = record p { ecc = r; ecc_dump = r; ecc_console = r; ecc_ftrace = r; ecc_pmsg = r }

-- a zone with the plain signature
abbrev pub zone : ZoneName → ℕ → ℕ → ℕ → ℕ → ℕ → ℕ → Zone
zone name at size cap blocks parity block =
    record {
      name = name;
      at = at;
      size = size;
      cap = cap;
      blocks = blocks;
      parity = parity;
      sig = 0x43474244;
      block = block;
      byte_order = Little;
    }

-- a console alone, without parity and with two parity bytes; four zones; two processors
abbrev pub lone : Params
lone = record default { mem = 4096; dump = 0; ftrace = 0; pmsg = 0 }

abbrev pub four : Params
four = record default { mem = 16384; ftrace = 0 }

abbrev pub LayoutsOfTheRows : Type 0
LayoutsOfTheRows =
    (layout_of lone ≡ Ok lone_console)
    × (layout_of (with_parity 2 lone) ≡ Ok (console_of_two ∷ []))
    × (layout_of four ≡ Ok four_zones)
    × (layout_of (record default { mem = 4096; dump = 0; console = 0; pmsg = 0; cpus = 2 }) ≡ Ok two_processors)

abbrev pub LayoutWithParity : Type 0
LayoutWithParity =
    layout_of (with_parity 16 four)
    ≡ Ok (
    zone (dump 0) 0 4096 3604 29 16 128
    ∷ zone (dump 1) 4096 4096 3604 29 16 128
    ∷ zone console 8192 4096 3604 29 16 128
    ∷ zone pmsg 12288 4096 3604 29 16 128 ∷ [])

-- 253 dump zones, and one of each other kind
abbrev pub LayoutOfMebibyte : Type 0
LayoutOfMebibyte =
    (layout_of (with_parity 16 (record default { mem = 0x100000 }))
    ≡ Ok (map (λ i. zone (dump i) (4096 * i) 4096 3604 29 16 128) (range_with_len 0 253)
    ++ zone console 1036288 4096 3604 29 16 128
    ∷ zone (ftrace 0) 1040384 4096 3604 29 16 128
    ∷ zone pmsg 1044480 4096 3604 29 16 128 ∷ []))

abbrev pub LayoutOfOddSizes : Type 0
LayoutOfOddSizes =
    (layout_of (record default { mem = 2048; dump = 512; console = 256; ftrace = 0; pmsg = 0 })
    ≡ Ok (
    zone (dump 0) 0 596 584 5 0 128
    ∷ zone (dump 1) 596 596 584 5 0 128
    ∷ zone (dump 2) 1192 596 584 5 0 128
    ∷ zone console 1788 256 244 2 0 128 ∷ []))
    × (layout_of (with_parity 16 (record default { mem = 2048; dump = 0; console = 2048; ftrace = 0; pmsg = 0 }))
    ≡ Ok (zone console 0 2048 1780 15 16 128 ∷ []))

-- sizes are rounded down to powers of two, and the memory is taken as it is: the dump zones share what is left of it
abbrev pub LayoutRoundsSizes : Type 0
LayoutRoundsSizes =
    (layout_of (record four { dump = 8191; console = 4097; pmsg = 5000 }) ≡ Ok four_zones)
    × (layout_of (record lone { mem = 8191 }) ≡ Ok lone_console)
    × (layout_of (record default { mem = 0x180000; dump = 0x20000 })
    ≡ Ok (map (λ i. zone (dump i) (141870 * i) 141870 141858 1109 0 128) (range_with_len 0 11)
    ++ zone console 1560570 4096 4084 32 0 128
    ∷ zone (ftrace 0) 1564666 4096 4084 32 0 128
    ∷ zone pmsg 1568762 4096 4084 32 0 128 ∷ []))

-- parity is in bytes: one byte is one byte
abbrev pub LayoutWithOneByte : Type 0
LayoutWithOneByte = layout_of (with_parity 1 lone) ≡ Ok (zone console 0 4096 4051 32 1 128 ∷ [])

abbrev pub LayoutOfSmallBlocks : Type 0
LayoutOfSmallBlocks =
    layout_of (record (with_parity 16 four) { block = 32; ecc_dump = 0 })
    ≡ Ok (
    zone (dump 0) 0 4096 4084 128 0 32
    ∷ zone (dump 1) 4096 4096 4084 128 0 32
    ∷ zone console 8192 4096 2708 85 16 32
    ∷ zone pmsg 12288 4096 2708 85 16 32 ∷ [])

-- the tag of the ftrace zones alone changes their signature
abbrev pub LayoutWithTag : Type 0
LayoutWithTag =
    layout_of (record default { mem = 8192; dump = 0; pmsg = 0; ftrace_sig = 0x43474244 })
    ≡ Ok (zone console 0 4096 4084 32 0 128 ∷ record (zone (ftrace 0) 4096 4096 4084 32 0 128) { sig = 0 } ∷ [])

-- pmsg lies before ftrace as Linux 6.12 lays them out, and else behind it
abbrev pub LayoutInEitherOrder : Type 0
LayoutInEitherOrder =
    (layout_of (record default { mem = 16384; dump = 0; console = 8192; order = PmsgFtrace })
    ≡ Ok (zone console 0 8192 8180 64 0 128 ∷ zone pmsg 8192 4096 4084 32 0 128
    ∷ zone (ftrace 0) 12288 4096 4084 32 0 128 ∷ []))
    × (layout_of (record default { mem = 16384; dump = 0; console = 8192; order = FtracePmsg })
    ≡ Ok (zone console 0 8192 8180 64 0 128 ∷ zone (ftrace 0) 8192 4096 4084 32 0 128
    ∷ zone pmsg 12288 4096 4084 32 0 128 ∷ []))

abbrev pub WorkedFaults : Type 0
WorkedFaults =
    (layout_of (record default { mem = 16777217 }) ≡ Err TooLarge)
    × (layout_of (with_parity 127 (record default { mem = 256; dump = 0; console = 256; ftrace = 0; pmsg = 0 }))
    ≡ Err EccInvalid)
    × (layout_of (record four { block = 100 }) ≡ Err BlockBad)

-- of two faults the first of these: no memory, no zone, too large, parity, block size, processors, room,
-- small zones, parity in a zone
abbrev pub FaultsInOrder : Type 0
FaultsInOrder =
    (layout_of (record default { dump = 0; console = 0; ftrace = 0; pmsg = 0 }) ≡ Err NoMemory)
    × (layout_of (record default { mem = 16777217; dump = 0; console = 0; ftrace = 0; pmsg = 0 }) ≡ Err NoZone)
    × (layout_of (with_parity 128 (record default { mem = 16777217 })) ≡ Err TooLarge)
    × (layout_of (record (with_parity 128 four) { block = 100 }) ≡ Err EccTooLarge)
    × (layout_of (record four { block = 100; cpus = 0 }) ≡ Err BlockBad)
    × (layout_of (record four { cpus = 65; mem = 4096 }) ≡ Err CpusBad)
    × (layout_of (record default { mem = 4096; dump = 0; console = 4096; ftrace = 128; pmsg = 0 }) ≡ Err NoRoom)
    × (layout_of (with_parity 127 (record default { mem = 256; dump = 0; console = 128; ftrace = 0; pmsg = 0 }))
    ≡ Err ZoneTooSmall)

-- the parity of a kind that has no zone counts; dumps need room for one, in the memory as it is
abbrev pub FaultsDecided : Type 0
FaultsDecided =
    (layout_of (record lone { ecc_ftrace = 128 }) ≡ Err EccTooLarge)
    × (layout_of (record default { mem = 0x180000; dump = 0x200000 }) ≡ Err NoRoom)
    × (layout_of (record default { mem = 12289; dump = 0x20000 }) ≡ Err NoRoom)
    × (layout_of (record default { mem = 16384; dump = 8192; console = 4096; ftrace = 4096; pmsg = 4096 }) ≡ Err NoRoom)
    × (layout_of (record default { mem = 16384; dump = 8192; console = 8192; ftrace = 4096; pmsg = 4096 })
    ≡ Ok (zone console 0 8192 8180 64 0 128 ∷ zone (ftrace 0) 8192 4096 4084 32 0 128
    ∷ zone pmsg 12288 4096 4084 32 0 128 ∷ []))
    × (layout_of (record default { mem = 4096; dump = 0; console = 0; pmsg = 0; cpus = 64 }) ≡ Err ZoneTooSmall)
    × (layout_of (record default {
      mem = 4096;
      dump = 0;
      console = 2147483648;
      ftrace = 2147483648;
      pmsg = 2147483648;
    }) ≡ Err NoRoom)
