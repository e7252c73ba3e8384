-- A call of numbers and lent bytes as a call of the definitions, and its parts: the bytes of each, and the stages behind it
use Rattle.std.specs.Prelude.{ℕ, ◌-◌, List, [], ◌++◌, length, take}
use Rattle.zone_spec.specs.declared.Zone.{Zone}
use Rattle.zone_spec.specs.Told.{Call, Append, Erase, Dump, last_items}
use Rattle.zone_spec.specs.declared.Words.{Words}
use Rattle.zone_spec.specs.declared.CallKind.{CallKind}
use Rattle.zone_spec.specs.declared.CallKind.TheVariants.{Append as AppendKind, Erase as EraseKind, Dump as DumpKind}
use Rattle.zone_spec.specs.Parts.{AreBytes}
use Rattle.zone_spec.specs.Ring.{IsOpen}
use Rattle.zone_spec.specs.Stages.{Stage}
use Rattle.zone_spec.specs.Calls.{append_stages}
use Rattle.store_steps.specs.declared.place.Leg.{Leg}
use Rattle.store_steps.specs.declared.place.Leg.TheVariants.{Erasure, Payload, Line, Body}

-- the call of a kind on these bytes; an append has no line, an erasure no bytes at all
abbrev pub call_of : CallKind → List ℕ → List ℕ → Call
call_of AppendKind line payload = Append payload
call_of EraseKind line payload = Erase
call_of DumpKind line payload = Dump line payload

-- an append is to a ring that can be appended to
abbrev pub IsOpenFor : Call → Words → ℕ → Type 0
IsOpenFor (Append payload) w cap = IsOpen w cap
IsOpenFor Erase w cap = Unit {0}
IsOpenFor (Dump line body) w cap = Unit {0}

-- what a call appends is of bytes
abbrev pub AreCallBytes : Call → Type 0
AreCallBytes (Append payload) = AreBytes payload
AreCallBytes Erase = Unit {0}
AreCallBytes (Dump line body) = AreBytes line × AreBytes body

-- the bytes that an append stores, those of a dump's line, and the front of its body; nothing where the call is another
unfoldable pub last_of : ℕ → Call → List ℕ
last_of cap (Append payload) = last_items cap payload
last_of cap Erase = []
last_of cap (Dump line body) = []

unfoldable pub line_of : Call → List ℕ
line_of (Append payload) = []
line_of Erase = []
line_of (Dump line body) = line

unfoldable pub front_of : ℕ → Call → List ℕ
front_of cap (Append payload) = []
front_of cap Erase = []
front_of cap (Dump line body) = take (cap - length line) body

-- the bytes that a part of the call appends
abbrev pub leg_bytes : ℕ → Call → Leg → List ℕ
leg_bytes cap call Erasure = []
leg_bytes cap call Payload = last_of cap call
leg_bytes cap call Line = line_of call
leg_bytes cap call Body = front_of cap call

-- the append of the body's front, behind that of the line
abbrev pub body_stages : Zone → Call → List Stage
body_stages z call = append_stages z (length (line_of call)) (length (line_of call)) (front_of z.cap call)

-- the stages of the parts behind it
abbrev pub later_stages : Zone → Call → Leg → List Stage
later_stages z call Erasure = append_stages z 0 0 (line_of call) ++ body_stages z call
later_stages z call Payload = []
later_stages z call Line = body_stages z call
later_stages z call Body = []
