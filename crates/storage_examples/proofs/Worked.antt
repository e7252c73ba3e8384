-- The rows compute
use Rattle.std.proofs.Common.{refl}
use Rattle.std.specs.Fmt.{digits}
use Rattle.psz_spec.specs.Headers.{word, dump_header}
use Rattle.psz_spec.specs.States.{state_of}
use Rattle.psz_spec.specs.Records.{listed_in, total_line}
use Rattle.psz_spec.specs.Failures.{kernel_fault}
use Rattle.psz_examples.specs.Listings.{storage, storage_zones, all_kinds_storage, all_kinds_zones, big_storage}
use Rattle.psz_examples.specs.Listings.{big_zones}
use Rattle.storage_examples.specs.Records.{HeldRow, AllHeldRow, TimeRow, NoTimeRow, EarlyRow, ErasedRow, FoundRow}
use Rattle.storage_examples.specs.Told.{SizesRow, CpusRow, TiedRow, NotTiedRow, OopsesRow, FaultRow, StartRow}
use Rattle.storage_examples.specs.Told.{FaultLinesRow, HasDumpRow, NoPanicRow, BigSizesRow, BigHasDumpRow}
use Rattle.storage_examples.specs.Told.{OtherOrderRow}
use Rattle.storage_examples.specs.Records.{BigHeldRow, BigFoundRow, BigZoneRow}
use Rattle.psz_spec.specs.Marks.{mark_at, order_at, order_from, marks_from, gcd_in, gcd, step_after, step_of, rings_of, shown_sizes}
use Rattle.psz_spec.specs.Marks.{little_machine}
use Rattle.psz_examples.specs.Marks.{odd_storage}
use Rattle.storage_spec.specs.Found.{storage_in}
use Rattle.storage_examples.specs.Found.{OddDumpRow}

pub held : HeldRow
unfolding digits listed_in storage storage_zones word dump_header state_of total_line
held = refl

pub all_held : AllHeldRow
unfolding digits listed_in all_kinds_storage all_kinds_zones word dump_header state_of total_line
all_held = refl

pub time : TimeRow
time = refl

pub no_time : NoTimeRow
no_time = refl

pub early : EarlyRow
early = refl

pub erased : ErasedRow
unfolding storage word dump_header state_of
erased = refl

pub found : FoundRow
unfolding storage word dump_header state_of
found = refl

pub sizes : SizesRow
unfolding digits
sizes = refl

pub cpus : CpusRow
unfolding digits
cpus = refl

pub tied : TiedRow
tied = refl

pub not_tied : NotTiedRow
not_tied = refl

pub oopses : OopsesRow
oopses = refl

pub fault : FaultRow
unfolding digits
fault = refl

pub start : StartRow
unfolding digits
start = refl

pub fault_lines : FaultLinesRow
unfolding digits storage storage_zones word dump_header state_of kernel_fault
fault_lines = refl

pub has_dump : HasDumpRow
unfolding storage storage_zones word dump_header state_of
has_dump = refl

pub no_panic : NoPanicRow
unfolding storage storage_zones word dump_header state_of
no_panic = refl

pub big_held : BigHeldRow
unfolding digits listed_in big_storage big_zones word dump_header state_of total_line
big_held = refl

pub big_found : BigFoundRow
unfolding big_storage word dump_header state_of
big_found = refl

pub big_zone : BigZoneRow
big_zone = refl

pub big_sizes : BigSizesRow
unfolding digits
big_sizes = refl

pub big_has_dump : BigHasDumpRow
unfolding big_storage big_zones word dump_header state_of
big_has_dump = refl

pub other_order : OtherOrderRow
unfolding big_storage big_zones word dump_header state_of
other_order = refl

pub odd_dump : OddDumpRow
unfolding word mark_at order_at order_from marks_from gcd_in gcd step_after step_of rings_of shown_sizes little_machine
    storage_in odd_storage
odd_dump = refl
