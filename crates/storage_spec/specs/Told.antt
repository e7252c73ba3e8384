-- What is told of a storage that was found by its bytes
use Rattle.std.specs.Prelude.{ℕ, ◌==◌, Bool, not, ◌&&◌, if◌then◌else◌, List, [], ◌∷◌, ◌++◌, flat_map, codes, decimal}
use Rattle.std.specs.Prelude.{Option, Some, None}
use Rattle.std.specs.List.{list_any}
use Rattle.zone_spec.specs.declared.params.ByteOrder.{ByteOrder}
use Rattle.zone_spec.specs.declared.params.ByteOrder.TheVariants.{Little, Big}
use Rattle.psz_spec.specs.declared.Kind.{Kind}
use Rattle.psz_spec.specs.declared.Kind.TheVariants.{Pmsg, Console, Ftrace, Dump}
use Rattle.psz_spec.specs.declared.Zone.{Zone}
use Rattle.psz_spec.specs.declared.Sizes.{Sizes}
use Rattle.psz_spec.specs.declared.Machine.{Machine}
use Rattle.psz_spec.specs.declared.KernelFault.{KernelFault}
use Rattle.psz_spec.specs.declared.KernelFault.TheVariants.{StartBeyond, ShortDump, EmptyPacked}
use Rattle.psz_spec.specs.Headers.{order_of, dump_header}
use Rattle.psz_spec.specs.Layouts.{zones_of}
use Rattle.psz_spec.specs.States.{zone_bytes, data_of}
use Rattle.psz_spec.specs.Records.{gives}
use Rattle.psz_spec.specs.Failures.{kernel_fault}
use Rattle.storage_spec.specs.declared.Storage.{Storage}

-- ---- its sizes

abbrev pub cpus_words : Sizes → List ℕ
cpus_words s = if s.ftrace == 0 then [] else codes " cpus=" ++ decimal s.cpus

-- nothing of the order of most machines
abbrev pub order_words : ByteOrder → List ℕ
order_words Little = []
order_words Big = codes " byte_order=big"

-- in bytes
abbrev pub size_words : Sizes → List ℕ
size_words s =
    codes "kmsg_size=" ++ decimal s.dump ++ codes " console_size=" ++ decimal s.console ++ codes " ftrace_size="
    ++ decimal s.ftrace ++ codes " pmsg_size=" ++ decimal s.pmsg ++ cpus_words s

abbrev pub found_line : List ℕ → Sizes → ByteOrder → List ℕ
found_line name s order =
    name ++ codes ": " ++ decimal s.total ++ codes " bytes; a storage of pstore_zone: " ++ size_words s
    ++ order_words order ++ 10 ∷ []

abbrev pub tied_line : Bool → List ℕ
tied_line tied =
    if tied then codes "  it has one dump: other values of kmsg_size show the same" ++ 10 ∷ [] else []

-- ---- dumps of oopses alone

abbrev pub is_panic : Machine → List ℕ → Zone → Bool
is_panic machine image z =
    gives machine image Dump z && ((dump_header machine (data_of (zone_bytes z image))).reason == 1)

abbrev pub has_dump : Machine → List ℕ → List Zone → Bool
has_dump machine image zones = list_any (λ (z : Zone). gives machine image Dump z) zones

abbrev pub has_panic : Machine → List ℕ → List Zone → Bool
has_panic machine image zones = list_any (is_panic machine image) zones

-- a panic is written by a driver for flash alone
abbrev pub oopses_line : Bool → List ℕ
oopses_line alone =
    if alone then codes "  no dump is from a panic, and a block device stores none: the newest may not be the death" ++ 10 ∷ []
    else []

-- ---- zones at which the kernel's own listing fails

abbrev pub kind_words : Kind → List ℕ
kind_words Pmsg = codes "  pmsg "
kind_words Console = codes "  console "
kind_words Ftrace = codes "  ftrace "
kind_words Dump = codes "  dump "

abbrev pub fault_words : KernelFault → List ℕ
fault_words StartBeyond = codes " starts beyond its length: the kernel lists no record at all"
fault_words ShortDump = codes " is shorter than its header: the kernel lists no record after it"
fault_words EmptyPacked = codes " is compressed and has no byte: the kernel lists no record after it"

abbrev pub fault_line : Zone → Option KernelFault → List ℕ
fault_line z None = []
fault_line z (Some fault) = kind_words z.kind ++ decimal z.index ++ fault_words fault ++ 10 ∷ []

abbrev pub fault_in : Machine → List ℕ → Zone → List ℕ
fault_in machine image z = fault_line z (kernel_fault machine z (zone_bytes z image))

abbrev pub fault_lines : Machine → List ℕ → List Zone → List ℕ
fault_lines machine image zones = flat_map (fault_in machine image) zones

-- ---- all of it

abbrev pub lines_with : List ℕ → Storage → List Zone → List ℕ → List ℕ
lines_with name s zones image =
    found_line name s.sizes (order_of s.machine) ++ tied_line s.tied
    ++ oopses_line (has_dump s.machine image zones && not (has_panic s.machine image zones))
    ++ fault_lines s.machine image zones

-- the lines on a storage under this name
unfoldable pub storage_lines : List ℕ → Storage → List ℕ → List ℕ
storage_lines name s image = lines_with name s (zones_of s.sizes) image
