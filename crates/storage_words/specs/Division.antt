-- The storage that sizes divide, and why no kernel divides one by them
use Rattle.std.specs.Prelude.{ℕ, false, List, length, codes, Option, Some, None, Result, Ok, Err}
use Rattle.psz_spec.specs.declared.Machine.{Machine}
use Rattle.psz_spec.specs.declared.Sizes.{Sizes}
use Rattle.psz_spec.specs.declared.SizeFault.{SizeFault}
use Rattle.psz_spec.specs.declared.SizeFault.TheVariants.{TotalSmall, NoSize, TotalUneven, SizeUneven, NoRoom}
use Rattle.psz_spec.specs.declared.SizeFault.TheVariants.{FtraceSmall, NoDumpZone}
use Rattle.psz_spec.specs.Layouts.{size_fault}
use Rattle.storage_spec.specs.Found.{machine_of}
use Rattle.storage_spec.specs.declared.Storage.{Storage}

abbrev pub sized : ℕ → Sizes → Sizes
sized total sizes = record sizes { total = total }

abbrev pub storage_given : Sizes → Machine → Storage
storage_given sizes machine = record { sizes = sizes; machine = machine; tied = false }

abbrev pub ok_unless : Option SizeFault → Storage → Result Storage SizeFault
ok_unless None storage = Ok storage
ok_unless (Some fault) storage = Err fault

-- the storage that sizes divide, or why no kernel divides these bytes by them. The bytes still show the machine, and
-- with it the order of bytes
unfoldable pub storage_of : Sizes → List ℕ → Result Storage SizeFault
storage_of sizes bytes =
    ok_unless (size_fault (sized (length bytes) sizes)) (storage_given (sized (length bytes) sizes) (machine_of bytes))

abbrev pub size_fault_text : SizeFault → List ℕ
size_fault_text TotalSmall = codes "it has fewer than 4096 bytes"
size_fault_text NoSize = codes "all sizes are 0"
size_fault_text TotalUneven = codes "it has no whole pages of 4096 bytes"
size_fault_text SizeUneven = codes "a size is no multiple of 512"
size_fault_text NoRoom = codes "its zones have no room"
size_fault_text FtraceSmall = codes "an ftrace zone would have fewer than 12 bytes"
size_fault_text NoDumpZone = codes "no dump zone has room"

-- its number for a caller
abbrev pub size_fault_number : SizeFault → ℕ
size_fault_number TotalSmall = 201
size_fault_number NoSize = 202
size_fault_number TotalUneven = 203
size_fault_number SizeUneven = 204
size_fault_number NoRoom = 205
size_fault_number FtraceSmall = 206
size_fault_number NoDumpZone = 207
