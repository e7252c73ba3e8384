-- The rows on damaged zones and on parts compute
use Rattle.std.proofs.Common.{refl}
use Rattle.psz_spec.specs.Headers.{word, dump_header}
use Rattle.psz_spec.specs.States.{state_of}
use Rattle.psz_spec.specs.Failures.{kernel_fault}
use Rattle.psz_spec.specs.Parts.{part_of, parts_of, read_order}
use Rattle.psz_spec.specs.Records.{total_line, listed_in}
use Rattle.std.specs.Fmt.{digits}
use Rattle.psz_examples.specs.Headers.{wide_front}
use Rattle.psz_examples.specs.Listings.{storage, storage_zones}
use Rattle.psz_examples.specs.Failures.{broken_storage, broken_zones, ShortDumpFaultRow, EmptyPackedRow, PackedRow}
use Rattle.psz_examples.specs.Failures.{StartBeyondRow, PassedOverRow, OthersListedRow, PartsRow, PackedNameRow}
use Rattle.psz_examples.specs.Failures.{RingNameRow}

pub short_dump : ShortDumpFaultRow
unfolding word dump_header state_of kernel_fault wide_front
short_dump = refl

pub empty_packed : EmptyPackedRow
unfolding word dump_header state_of kernel_fault wide_front
empty_packed = refl

pub packed : PackedRow
unfolding word dump_header state_of kernel_fault wide_front
packed = refl

pub start_beyond : StartBeyondRow
unfolding word state_of kernel_fault
start_beyond = refl

pub passed_over : PassedOverRow
unfolding word state_of kernel_fault
passed_over = refl

pub others_listed : OthersListedRow
unfolding word dump_header state_of total_line listed_in digits broken_storage broken_zones
others_listed = refl

pub parts : PartsRow
unfolding word dump_header state_of part_of parts_of read_order storage storage_zones
parts = refl

pub packed_name : PackedNameRow
packed_name = refl

pub ring_name : RingNameRow
ring_name = refl
