-- What the objects in memory hold and have counted, and what a call leaves in them.
use Rattle.std.specs.Prelude.{ℕ, ◌/◌, Bool, ◌||◌, if◌then◌else◌, nat_lt, List, [], length, take, drop}
use Rattle.outside.specs.declared.calls.CallLog.{CallLog}
use Rattle.outside.specs.declared.memory.MemSource.{MemSource}
use Rattle.outside.specs.declared.memory.MemSink.{MemSink}
use Rattle.outside.specs.declared.memory.MemStore.{MemStore}
use Rattle.outside.specs.Calls.{is_to_fail}

-- the bytes that a source has left, and how many it gives a call at most
abbrev pub source_left : MemSource → List ℕ
source_left s = drop s.at s.bytes

abbrev pub source_piece : MemSource → ℕ
source_piece s = s.piece

abbrev pub source_calls : MemSource → CallLog
source_calls s = s.calls

-- the bytes that a sink was given, and how many it takes in all
abbrev pub sink_given : MemSink → List ℕ
sink_given s = s.bytes.items

abbrev pub sink_limit : MemSink → ℕ
sink_limit s = s.limit

abbrev pub sink_calls : MemSink → CallLog
sink_calls s = s.calls

-- the bytes that a store holds, and how many it holds at most
abbrev pub store_holds : MemStore → List ℕ
store_holds s = s.bytes.items

abbrev pub store_limit : MemStore → ℕ
store_limit s = s.limit

abbrev pub store_calls : MemStore → CallLog
store_calls s = s.calls

-- how often it was asked to write, and how often its size was not told or it was not read
abbrev pub store_writes : MemStore → ℕ
store_writes s = s.writes

abbrev pub store_read_faults : MemStore → ℕ
store_read_faults s = s.read_faults

-- whether a put or a write fails that ends at this place: past the limit, or where it is to fail
abbrev pub fails_at : ℕ → ℕ → CallLog → Bool
fails_at limit end calls = nat_lt limit end || is_to_fail calls

-- what of the bytes is written then: none past the limit, the first half where it is to fail, else all
abbrev pub part_written : ℕ → ℕ → CallLog → List ℕ → List ℕ
part_written limit end calls bytes =
    if nat_lt limit end then [] else (if is_to_fail calls then take (length bytes / 2) bytes else bytes)
