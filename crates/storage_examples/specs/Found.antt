-- What bytes that show no storage show
use Rattle.std.specs.Prelude.{◌≡◌, None}
use Rattle.storage_spec.specs.Found.{storage_in}
use Rattle.psz_examples.specs.Marks.{odd_storage}

-- a dump after ftrace zones of an odd size is not found by its mark
abbrev pub OddDumpRow : Type 0
OddDumpRow = storage_in odd_storage ≡ None
