-- The sizes and the machine that bytes show, and the sizes that parameters give
use Rattle.std.specs.Prelude.{◌≡◌, ℕ, true, false, List, [], ◌∷◌, ◌++◌, codes, drop, replicate, Some, None}
use Rattle.psz_spec.specs.declared.Kind.{Kind}
use Rattle.psz_spec.specs.declared.Kind.TheVariants.{Pmsg, Console, Ftrace, Dump}
use Rattle.zone_spec.specs.declared.params.ByteOrder.TheVariants.{Little, Big}
use Rattle.psz_spec.specs.declared.Machine.TheVariants.{Aligned, X86}
use Rattle.psz_spec.specs.declared.Mark.{Mark}
use Rattle.psz_spec.specs.declared.Sizes.{Sizes}
use Rattle.psz_spec.specs.declared.Shown.{Shown}
use Rattle.psz_spec.specs.Marks.{mark_at, order_in, marks_in, step_of, shown_sizes, machine_shown}
use Rattle.psz_spec.specs.Parameters.{kib_size}
use Rattle.psz_examples.specs.Layouts.{sizes}
use Rattle.psz_examples.specs.Headers.{wide_front, x86_front}
use Rattle.psz_examples.specs.Rings.{ring, big_ring}
use Rattle.psz_examples.specs.Listings.{dump_bytes, big_dump_bytes}

abbrev pub mark : Kind → ℕ → ℕ → Mark
mark kind at len = record { kind = kind; at = at; len = len }

abbrev pub shown : Sizes → Shown
shown s = record { sizes = s; tied = false }

abbrev pub tied : Sizes → Shown
tied s = record { sizes = s; tied = true }

-- a pmsg zone of 1024 bytes, and two dump zones of 512
unfoldable pub marked_storage : List ℕ
marked_storage =
    ring 8 3 ++ replicate 1004 0 ++ dump_bytes 44 0 60 3 (codes "text") ++ replicate 456 0
    ++ dump_bytes 44 0 90 4 (codes "text") ++ replicate 456 0

abbrev pub MarksRow : Type 0
MarksRow = marks_in Little marked_storage ≡ mark Pmsg 0 8 ∷ mark Dump 1024 44 ∷ mark Dump 1536 44 ∷ []

-- one byte too long for the storage
abbrev pub TooLongRow : Type 0
TooLongRow = mark_at Little 2060 2040 (ring 9 9) ≡ None

abbrev pub JustFitsRow : Type 0
JustFitsRow = mark_at Little 2060 2040 (ring 8 8) ≡ Some (mark Pmsg 2040 8)

-- distances of 8192 and 12288: zones of 4096
abbrev pub StepRow : Type 0
StepRow = step_of Dump (mark Dump 0 100 ∷ mark Dump 8192 100 ∷ mark Dump 20480 100 ∷ []) ≡ 4096

-- pmsg, console, two of ftrace, two dumps
abbrev pub AllShownRow : Type 0
AllShownRow = shown_sizes 32768
    (mark Pmsg 0 8 ∷ mark Console 4096 8 ∷ mark Ftrace 8192 8 ∷ mark Ftrace 12288 8 ∷ mark Dump 16384 100
    ∷ mark Dump 24576 100 ∷ [])
    ≡ Some (shown (sizes 32768 4096 4096 8192 8192 2))

-- one dump: 64 KiB, the kernel's default
abbrev pub OneDumpRow : Type 0
OneDumpRow = shown_sizes 131072 (mark Dump 0 100 ∷ []) ≡ Some (tied (sizes 131072 0 0 0 65536 1))

-- there is no room for 64 KiB, or the dump is longer: all the rest
abbrev pub OneSmallRow : Type 0
OneSmallRow = shown_sizes 16384 (mark Dump 0 100 ∷ []) ≡ Some (tied (sizes 16384 0 0 0 16384 1))

abbrev pub OneLongRow : Type 0
OneLongRow = shown_sizes 131072 (mark Dump 0 65525 ∷ []) ≡ Some (tied (sizes 131072 0 0 0 131072 1))

-- no ring is marked: the zones 0 and 1 were passed over
abbrev pub FirstMissingRow : Type 0
FirstMissingRow = shown_sizes 16384 (mark Dump 8192 100 ∷ mark Dump 12288 100 ∷ [])
    ≡ Some (shown (sizes 16384 0 0 0 4096 1))

-- a pmsg of 512 bytes that is empty, and the first dump zone, which was passed over
abbrev pub RestBeforeRow : Type 0
RestBeforeRow = shown_sizes 16384 (mark Dump 4608 100 ∷ mark Dump 8704 100 ∷ [])
    ≡ Some (shown (sizes 16384 512 0 0 4096 1))

abbrev pub NoDumpRow : Type 0
NoDumpRow = shown_sizes 16384 (mark Pmsg 0 8 ∷ []) ≡ None

abbrev pub WideMachineRow : Type 0
WideMachineRow = machine_shown (drop 12 wide_front) ≡ Some Aligned

abbrev pub X86MachineRow : Type 0
X86MachineRow = machine_shown (drop 12 x86_front) ≡ Some X86

abbrev pub NoMachineRow : Type 0
NoMachineRow = machine_shown [] ≡ None

-- kmsg_size=64
abbrev pub KibRow : Type 0
KibRow = kib_size 64 ≡ 65536

-- 5, 10 and 63 KiB are not rounded up to 8, 12 and 64
abbrev pub FiveKibRow : Type 0
FiveKibRow = kib_size 5 ≡ 4096

abbrev pub TenKibRow : Type 0
TenKibRow = kib_size 10 ≡ 4096

abbrev pub OddKibRow : Type 0
OddKibRow = kib_size 63 ≡ 4096

abbrev pub NoKibRow : Type 0
NoKibRow = kib_size 0 ≡ 0

-- ---- the order of bytes

-- the same storage of a big-endian machine
unfoldable pub big_marked_storage : List ℕ
big_marked_storage =
    big_ring 8 3 ++ replicate 1004 0 ++ big_dump_bytes 44 0 60 3 (codes "text") ++ replicate 456 0
    ++ big_dump_bytes 44 0 90 4 (codes "text") ++ replicate 456 0

abbrev pub BigMarksRow : Type 0
BigMarksRow = marks_in Big big_marked_storage ≡ mark Pmsg 0 8 ∷ mark Dump 1024 44 ∷ mark Dump 1536 44 ∷ []

abbrev pub LittleOrderRow : Type 0
LittleOrderRow = order_in marked_storage ≡ Little

abbrev pub BigOrderRow : Type 0
BigOrderRow = order_in big_marked_storage ≡ Big

-- a dump of each order: the first decides, and the other is no mark
unfoldable pub both_orders : List ℕ
both_orders =
    replicate 512 0 ++ big_dump_bytes 44 0 60 3 (codes "text") ++ replicate 456 0 ++ dump_bytes 44 0 90 4 (codes "text")
    ++ replicate 456 0

abbrev pub FirstOrderRow : Type 0
FirstOrderRow = order_in both_orders ≡ Big

abbrev pub OtherNoMarkRow : Type 0
OtherNoMarkRow = marks_in Big both_orders ≡ mark Dump 512 44 ∷ []

-- a big-endian signature and length before a little-endian magic number
abbrev pub MixedMagicRow : Type 0
MixedMagicRow = mark_at Big 512 0 (67 ∷ 71 ∷ 66 ∷ 68 ∷ 0 ∷ 0 ∷ 0 ∷ 44 ∷ 0 ∷ 0 ∷ 0 ∷ 0 ∷ 229 ∷ 58 ∷ 252 ∷ 77 ∷ []) ≡ None

abbrev pub NoMarkRow : Type 0
NoMarkRow = order_in (replicate 512 0) ≡ Little

-- a dump at 4095, where it begins after the three ftrace zones of the row with an odd place
unfoldable pub odd_storage : List ℕ
odd_storage = replicate 4095 0 ++ dump_bytes 44 0 60 3 (codes "text") ++ replicate 8137 0

abbrev pub OddDumpRow : Type 0
OddDumpRow = marks_in Little odd_storage ≡ []
