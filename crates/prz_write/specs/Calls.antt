-- A call of the code as a call of the definitions, and as the numbers and lent bytes of its steps
use Rattle.std.specs.Prelude.{ℕ, List, []}
use Rattle.zone_spec.specs.Told.{Call, Append, Erase, Dump}
use Rattle.zone_spec.specs.declared.CallKind.{CallKind}
use Rattle.zone_spec.specs.declared.CallKind.TheVariants.{Append as AppendKind, Erase as EraseKind, Dump as DumpKind}
use Rattle.prz_write.specs.declared.call.Call.{Call as RustCall}
use Rattle.prz_write.specs.declared.call.Call.TheVariants.{Append as RustAppend, Erase as RustErase, Dump as RustDump}

abbrev pub call_seen : RustCall → Call
call_seen (RustAppend payload) = Append payload
call_seen RustErase = Erase
call_seen (RustDump line body) = Dump line body

-- its kind, and what it lends to its steps
abbrev pub kind_seen : RustCall → CallKind
kind_seen (RustAppend payload) = AppendKind
kind_seen RustErase = EraseKind
kind_seen (RustDump line body) = DumpKind

abbrev pub line_seen : RustCall → List ℕ
line_seen (RustAppend payload) = []
line_seen RustErase = []
line_seen (RustDump line body) = line

abbrev pub payload_seen : RustCall → List ℕ
payload_seen (RustAppend payload) = payload
payload_seen RustErase = []
payload_seen (RustDump line body) = body
