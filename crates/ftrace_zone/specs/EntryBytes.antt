-- The bytes of an entry.
use Rattle.std.specs.Prelude.{ℕ, List, ◌++◌}
use Rattle.std.specs.Int.{to_le_bytes}
use Rattle.std.proofs.Common.{w64}
use Rattle.ftrace_zone.specs.declared.Entry.{Entry}

-- an entry's 24 bytes: three words of 64 bits, each with its lowest byte first (include/linux/pstore.h, struct
-- pstore_ftrace_record)
unfoldable pub entry_bytes : Entry → List ℕ
entry_bytes e = to_le_bytes w64 e.addr ++ to_le_bytes w64 e.parent ++ to_le_bytes w64 e.word
