-- The storage that the bytes of a file show
use Rattle.std.specs.Prelude.{ℕ, ◌/◌, ◌*◌, if◌then◌else◌, is_none, List, length, take, Option, Some, None}
use Rattle.psz_spec.specs.declared.Machine.{Machine}
use Rattle.psz_spec.specs.declared.Shown.{Shown}
use Rattle.psz_spec.specs.Layouts.{size_fault}
use Rattle.psz_spec.specs.Marks.{order_in, marks_in, shown_sizes, machine_in}
use Rattle.storage_spec.specs.declared.Storage.{Storage}

-- the kernel uses at most 128 MiB, and whole pages of 4096 bytes
abbrev pub most_storage : ℕ
most_storage = 134_217_728

abbrev pub whole_pages : List ℕ → List ℕ
whole_pages bytes = take (length bytes / 4096 * 4096) bytes

abbrev pub front_of : List ℕ → List ℕ
front_of image = whole_pages (take most_storage image)

abbrev pub storage_with : Shown → Machine → Storage
storage_with shown machine = record { sizes = shown.sizes; machine = machine; tied = shown.tied }

-- sizes that no kernel takes show no storage
abbrev pub storage_by : Option Shown → Machine → Option Storage
storage_by None machine = None
storage_by (Some shown) machine =
    if is_none (size_fault shown.sizes) then Some (storage_with shown machine) else None

-- the machine that bytes show, by their order and the headers that stand in them
abbrev pub machine_of : List ℕ → Machine
machine_of bytes = machine_in (order_in bytes) bytes (marks_in (order_in bytes) bytes)

-- the storage that bytes show, by the headers that stand in them at multiples of 512. One dump at least must stand there:
-- its two magic numbers stand in no other format
unfoldable pub storage_in : List ℕ → Option Storage
storage_in bytes = storage_by (shown_sizes (length bytes) (marks_in (order_in bytes) bytes)) (machine_of bytes)
