-- The lines on storages
use Rattle.std.specs.Prelude.{◌≡◌, true, false, [], ◌∷◌, ◌++◌, codes, slice_set, Some}
use Rattle.psz_spec.specs.declared.Kind.TheVariants.{Dump, Console}
use Rattle.psz_spec.specs.declared.Machine.TheVariants.{Aligned, BigEndian}
use Rattle.zone_spec.specs.declared.params.ByteOrder.TheVariants.{Little, Big}
use Rattle.psz_spec.specs.declared.KernelFault.TheVariants.{ShortDump, StartBeyond}
use Rattle.storage_spec.specs.Told.{found_line, size_words, tied_line, oopses_line, fault_line, fault_lines, has_dump}
use Rattle.storage_spec.specs.Told.{has_panic}
use Rattle.psz_examples.specs.Layouts.{zone}
use Rattle.psz_examples.specs.Listings.{storage, storage_zones, big_storage, big_zones}

abbrev pub SizesRow : Type 0
SizesRow = found_line (codes "disk")
    (record { total = 16384; pmsg = 0; console = 0; ftrace = 0; dump = 4096; cpus = 1 }) Little
    ≡ codes "disk: 16384 bytes; a storage of pstore_zone: kmsg_size=4096 console_size=0 ftrace_size=0 pmsg_size=0\n"

abbrev pub BigSizesRow : Type 0
BigSizesRow = found_line (codes "disk")
    (record { total = 8192; pmsg = 512; console = 0; ftrace = 0; dump = 4096; cpus = 1 }) Big
    ≡ codes "disk: 8192 bytes; a storage of pstore_zone: kmsg_size=4096 console_size=0 ftrace_size=0 pmsg_size=512"
    ++ codes " byte_order=big\n"

abbrev pub CpusRow : Type 0
CpusRow = size_words (record { total = 65536; pmsg = 512; console = 1024; ftrace = 2048; dump = 4096; cpus = 2 })
    ≡ codes "kmsg_size=4096 console_size=1024 ftrace_size=2048 pmsg_size=512 cpus=2"

abbrev pub TiedRow : Type 0
TiedRow = tied_line true ≡ codes "  it has one dump: other values of kmsg_size show the same\n"

abbrev pub NotTiedRow : Type 0
NotTiedRow = tied_line false ≡ []

abbrev pub OopsesRow : Type 0
OopsesRow = oopses_line true
    ≡ codes "  no dump is from a panic, and a block device stores none: the newest may not be the death\n"

abbrev pub FaultRow : Type 0
FaultRow = fault_line (zone Dump 3 0 56) (Some ShortDump)
    ≡ codes "  dump 3 is shorter than its header: the kernel lists no record after it\n"

abbrev pub StartRow : Type 0
StartRow = fault_line (zone Console 0 0 20) (Some StartBeyond)
    ≡ codes "  console 0 starts beyond its length: the kernel lists no record at all\n"

-- the first dump's length is 20
abbrev pub FaultLinesRow : Type 0
FaultLinesRow = fault_lines Aligned (slice_set storage 20 20) storage_zones
    ≡ codes "  dump 0 is shorter than its header: the kernel lists no record after it\n"

abbrev pub HasDumpRow : Type 0
HasDumpRow = has_dump Aligned storage storage_zones ≡ true

abbrev pub NoPanicRow : Type 0
NoPanicRow = has_panic Aligned storage storage_zones ≡ false

-- of a big-endian machine; to a little-endian one its zones are empty
abbrev pub BigHasDumpRow : Type 0
BigHasDumpRow = has_dump BigEndian big_storage big_zones ≡ true

abbrev pub OtherOrderRow : Type 0
OtherOrderRow = has_dump Aligned big_storage big_zones ≡ false
