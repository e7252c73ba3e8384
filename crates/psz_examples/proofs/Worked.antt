-- The rows compute
use Rattle.std.proofs.Common.{refl}
use Rattle.std.specs.Fmt.{digits}
use Rattle.psz_spec.specs.Layouts.{zones_from, zones_of, size_fault}
use Rattle.psz_spec.specs.Headers.{word, dump_header}
use Rattle.psz_spec.specs.States.{state_of}
use Rattle.psz_spec.specs.Records.{total_line, listed_in}
use Rattle.psz_spec.specs.Cursor.{with_bytes, cursor_of}
use Rattle.psz_examples.specs.Layouts.{DumpsAloneRow, AllKindsRow, OddPlaceRow, RestUnusedRow, NoRoomRow, NoDumpZoneRow}
use Rattle.psz_examples.specs.Layouts.{UnevenRow, MoreThanCpusRow, LeftOverRow, MostRow, TotalSmallRow, NoSizeRow}
use Rattle.psz_examples.specs.Layouts.{TotalUnevenRow, FtraceSmallRow, HeadersAloneRow}
use Rattle.psz_examples.specs.Headers.{wide_front, x86_front, WideHeaderRow, X86HeaderRow, ErasedRow, UnwrittenRow}
use Rattle.psz_examples.specs.Headers.{OvertopRow, NoDumpRow, ShortDumpRow, NoDumpEmptyRow, HeaderAloneRow, FilledRow}
use Rattle.psz_examples.specs.Headers.{OneMoreRow, big_front, big_narrow_front, BigHeaderRow, BigNarrowHeaderRow}
use Rattle.psz_examples.specs.Headers.{BigFilledRow, BigOneMoreRow, BigErasedRow, BigAsLittleRow, LittleAsBigRow}
use Rattle.psz_examples.specs.Rings.{WrappedRow, NotYetRow, FullRow, BeyondRow, NotYetStateRow, StartOvertopRow}
use Rattle.psz_examples.specs.Rings.{ConsoleRow, FtraceRow, OtherKindRow, BigWrappedRow, BigRingRow, BigBeyondRow}
use Rattle.psz_examples.specs.Rings.{BigConsoleRow}
use Rattle.psz_examples.specs.Listings.{storage, storage_zones, all_kinds_storage, all_kinds_zones, ListingRow}
use Rattle.psz_examples.specs.Listings.{TotalRow, NegativeRow, UnknownRow, NameRow, NextRow, AllListedRow}
use Rattle.psz_examples.specs.Listings.{ErasedCountsRow, NegativeTimeRow, PanicCountRow, big_storage, big_zones}
use Rattle.psz_examples.specs.Listings.{BigListedRow, BigNextRow, OtherOrderListsNothingRow}

pub dumps_alone : DumpsAloneRow
unfolding zones_from zones_of
dumps_alone = refl

pub all_kinds : AllKindsRow
unfolding zones_from zones_of
all_kinds = refl

pub odd_place : OddPlaceRow
unfolding zones_from zones_of
odd_place = refl

pub rest_unused : RestUnusedRow
unfolding zones_from zones_of
rest_unused = refl

pub no_room : NoRoomRow
unfolding size_fault
no_room = refl

pub no_dump_zone : NoDumpZoneRow
unfolding size_fault
no_dump_zone = refl

pub uneven : UnevenRow
unfolding size_fault
uneven = refl

pub total_small : TotalSmallRow
unfolding size_fault
total_small = refl

pub no_size : NoSizeRow
unfolding size_fault
no_size = refl

pub total_uneven : TotalUnevenRow
unfolding size_fault
total_uneven = refl

pub ftrace_small : FtraceSmallRow
unfolding size_fault
ftrace_small = refl

pub headers_alone : HeadersAloneRow
unfolding size_fault
headers_alone = refl

pub wide_header : WideHeaderRow
unfolding word dump_header wide_front
wide_header = refl

pub x86_header : X86HeaderRow
unfolding word dump_header x86_front
x86_header = refl

pub erased : ErasedRow
unfolding word dump_header state_of wide_front
erased = refl

pub unwritten : UnwrittenRow
unfolding word dump_header state_of wide_front
unwritten = refl

pub overtop : OvertopRow
unfolding word dump_header state_of wide_front
overtop = refl

pub no_dump : NoDumpRow
unfolding word dump_header state_of wide_front
no_dump = refl

pub short : ShortDumpRow
unfolding word dump_header state_of wide_front
short = refl

pub wrapped : WrappedRow
unfolding word
wrapped = refl

pub not_yet : NotYetRow
unfolding word
not_yet = refl

pub full : FullRow
unfolding word
full = refl

pub beyond : BeyondRow
unfolding word state_of
beyond = refl

pub listing : ListingRow
unfolding digits word dump_header state_of total_line listed_in storage storage_zones
listing = refl

pub next : NextRow
unfolding word dump_header state_of with_bytes cursor_of storage storage_zones
next = refl

pub total : TotalRow
unfolding digits total_line
total = refl

pub negative : NegativeRow
unfolding digits total_line
negative = refl

pub unknown : UnknownRow
unfolding digits total_line
unknown = refl

pub name : NameRow
unfolding digits
name = refl

pub more_than_cpus : MoreThanCpusRow
unfolding zones_from zones_of
more_than_cpus = refl

pub left_over : LeftOverRow
unfolding zones_from zones_of
left_over = refl

pub most : MostRow
unfolding zones_from zones_of
most = refl

pub no_dump_empty : NoDumpEmptyRow
unfolding word dump_header state_of wide_front
no_dump_empty = refl

pub header_alone : HeaderAloneRow
unfolding word dump_header state_of wide_front
header_alone = refl

pub filled : FilledRow
unfolding word dump_header state_of wide_front
filled = refl

pub one_more : OneMoreRow
unfolding word dump_header state_of wide_front
one_more = refl

pub not_yet_state : NotYetStateRow
unfolding word state_of
not_yet_state = refl

pub start_overtop : StartOvertopRow
unfolding word state_of
start_overtop = refl

pub console : ConsoleRow
unfolding word state_of
console = refl

pub ftrace : FtraceRow
unfolding word state_of
ftrace = refl

pub other_kind : OtherKindRow
unfolding word state_of
other_kind = refl

pub all_listed : AllListedRow
unfolding digits word dump_header state_of total_line listed_in all_kinds_storage all_kinds_zones
all_listed = refl

pub erased_counts : ErasedCountsRow
unfolding word dump_header state_of with_bytes cursor_of storage storage_zones
erased_counts = refl

pub negative_time : NegativeTimeRow
unfolding word dump_header state_of with_bytes cursor_of storage storage_zones
negative_time = refl

pub panic_count : PanicCountRow
unfolding word dump_header state_of with_bytes cursor_of storage storage_zones
panic_count = refl

pub big_header : BigHeaderRow
unfolding word dump_header big_front
big_header = refl

pub big_narrow_header : BigNarrowHeaderRow
unfolding word dump_header big_narrow_front
big_narrow_header = refl

pub big_filled : BigFilledRow
unfolding word dump_header state_of big_front
big_filled = refl

pub big_one_more : BigOneMoreRow
unfolding word dump_header state_of big_front
big_one_more = refl

pub big_erased : BigErasedRow
unfolding word dump_header state_of big_front
big_erased = refl

pub big_as_little : BigAsLittleRow
unfolding word dump_header state_of big_front
big_as_little = refl

pub little_as_big : LittleAsBigRow
unfolding word dump_header state_of wide_front
little_as_big = refl

pub big_wrapped : BigWrappedRow
unfolding word
big_wrapped = refl

pub big_ring_state : BigRingRow
unfolding word state_of
big_ring_state = refl

pub big_beyond : BigBeyondRow
unfolding word state_of
big_beyond = refl

pub big_console : BigConsoleRow
unfolding word state_of
big_console = refl

pub big_listed : BigListedRow
unfolding digits word dump_header state_of total_line listed_in big_storage big_zones
big_listed = refl

pub big_next : BigNextRow
unfolding word dump_header state_of with_bytes cursor_of big_storage big_zones
big_next = refl

pub other_order : OtherOrderListsNothingRow
unfolding digits word dump_header state_of total_line listed_in big_storage big_zones
other_order = refl
