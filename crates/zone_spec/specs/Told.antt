-- What a call means for the list of bytes that its zone was told
use Rattle.std.specs.Prelude.{ℕ, ◌-◌, List, [], ◌++◌, length, take, drop}
use Rattle.zone_spec.specs.declared.CallKind.{CallKind}
use Rattle.zone_spec.specs.declared.CallKind.TheVariants.{Append as AppendKind, Erase as EraseKind, Dump as DumpKind}

-- a call on one zone; a dump has its time line and its body
pub data Call : Type 0 where
  Append : (payload : List ℕ) → Call
  Erase : Call
  Dump : (line body : List ℕ) → Call

-- which kind of call it is
abbrev pub kind_of : Call → CallKind
kind_of (Append payload) = AppendKind
kind_of Erase = EraseKind
kind_of (Dump line body) = DumpKind

-- the last cap items
abbrev pub last_items : ℕ → List ℕ → List ℕ
last_items cap xs = drop (length xs - cap) xs

-- the told list after the call
abbrev pub told_after : ℕ → Call → List ℕ → List ℕ
told_after cap (Append payload) told = last_items cap (told ++ payload)
told_after cap Erase told = []
told_after cap (Dump line body) told = line ++ take (cap - length line) body
