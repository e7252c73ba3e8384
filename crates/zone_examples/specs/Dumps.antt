-- Dumps
use Rattle.std.specs.Prelude.{◌≡◌, ℕ, ◌-◌, false, List, [], ◌∷◌, ◌++◌, replicate, slice_range, codes, length, Some}
use Rattle.std.specs.Prelude.{None}
use Rattle.zone_spec.specs.declared.Name.TheVariants.{Dump as DumpName}
use Rattle.zone_spec.specs.declared.State.TheVariants.{Unsigned, Empty, Found}
use Rattle.zone_spec.specs.declared.Verdict.TheVariants.{NothingTold, AsTold, Differs}
use Rattle.zone_spec.specs.declared.CallKind.TheVariants.{Append as AppendCall, Dump as DumpCall}
use Rattle.zone_spec.specs.declared.HeaderSeen.TheVariants.{Pair}
use Rattle.zone_spec.specs.declared.Refusal.TheVariants.{Busy}
use Rattle.zone_spec.specs.Told.{Dump as DumpOf, told_after}
use Rattle.zone_spec.specs.TimeLines.{line_text}
use Rattle.machine_spec.specs.States.{Session, Off, Live}
use Rattle.machine_spec.specs.Stop.{session_image}
use Rattle.machine_spec.specs.LiveCalls.{Append, Dump, Erase}
use Rattle.machine_spec.specs.Operations.{Operation, Boot, Make, Begin, Step, Stop, EraseRecord, Refused, NoRecord}
use Rattle.zone_examples.specs.Zones.{console, pmsg, dump, four_zones}
use Rattle.zone_examples.specs.Scenes.{abc, signature}
use Rattle.zone_examples.specs.Shown.{Boots, Answer, Refuses, boot, and_cut, run, left, records, contents}

abbrev pub first_boot : Answer
first_boot = Boots (boot (dump 0) Unsigned 0 0 0 0 NothingTold ∷ boot (dump 1) Unsigned 0 0 0 0 NothingTold
    ∷ boot console Unsigned 0 0 0 0 NothingTold ∷ boot pmsg Unsigned 0 0 0 0 NothingTold ∷ [])

-- two dumps, `one` and `two`, kept over a boot; the first is erased
abbrev pub two_dumps : List Operation
two_dumps =
    Boot ∷ Make (Dump (record { secs = 1700000000; micros = 123 }) false (codes "one"))
    ∷ Make (Dump (record { secs = 1700000001; micros = 0 }) false (codes "two"))
    ∷ Stop ∷ Boot ∷ []

abbrev pub and_one_erased : List Operation
and_one_erased = two_dumps ++ EraseRecord (DumpName 0 false) ∷ []

abbrev pub DumpsKept : Type 0
DumpsKept =
    (run four_zones (replicate 16384 0) (and_one_erased ++ EraseRecord (DumpName 0 false) ∷ [])
    ≡ first_boot
    ∷ Boots (boot (dump 0) Found 27 27 0 0 AsTold ∷ boot (dump 1) Found 27 27 0 0 AsTold
    ∷ boot console Empty 0 0 0 0 AsTold ∷ boot pmsg Empty 0 0 0 0 AsTold ∷ [])
    ∷ Refuses NoRecord
    ∷ [])
    × (records four_zones (left four_zones (replicate 16384 0) and_one_erased)
    ≡ (codes "dmesg-ramoops-1", 3, Some (record { secs = 1700000001; micros = 0 })) ∷ [])
    × (contents four_zones (left four_zones (replicate 16384 0) and_one_erased) ≡ codes "two" ∷ [])

abbrev pub BytesOfKeptDumps : Type 0
BytesOfKeptDumps =
    let image = session_image (left four_zones (replicate 16384 0) and_one_erased) in
    (slice_range image 0 12 ≡ signature ++ replicate 8 0)
    × (slice_range image 12 36 ≡ codes "====1700000000.000123-D\n")
    × (slice_range image 4096 4108 ≡ signature ++ 0x1b ∷ 0 ∷ 0 ∷ 0 ∷ 0x1b ∷ 0 ∷ 0 ∷ 0 ∷ [])

-- the cursor moves with a dump's last store, round the zones
abbrev pub cursor_in : Session → ℕ
cursor_in (Off off) = 9
cursor_in (Live live) = live.cursor

abbrev pub dump_now : Operation
dump_now = Make (Dump (record { secs = 5; micros = 6 }) false (codes "x"))

abbrev pub dump_begun : Operation
dump_begun = Begin (Dump (record { secs = 5; micros = 6 }) false (codes "x"))

abbrev pub CursorMovesAtLastStore : Type 0
CursorMovesAtLastStore =
    (cursor_in (left four_zones (replicate 16384 0) (Boot ∷ dump_begun ∷ [])) ≡ 0)
    × (cursor_in (left four_zones (replicate 16384 0) (Boot ∷ dump_begun ∷ Step (dump 0) 21 ∷ [])) ≡ 0)
    × (cursor_in (left four_zones (replicate 16384 0) (Boot ∷ dump_begun ∷ Step (dump 0) 22 ∷ [])) ≡ 1)
    × (cursor_in (left four_zones (replicate 16384 0) (Boot ∷ dump_now ∷ dump_now ∷ [])) ≡ 0)
    × (cursor_in (left four_zones (replicate 16384 0) (Boot ∷ dump_now ∷ Stop ∷ Boot ∷ [])) ≡ 0)

-- a dump keeps of its body what fits behind its line
abbrev pub DumpKeepsFront : Type 0
DumpKeepsFront =
    length (told_after 4084 (DumpOf (line_text (record { secs = 1700000000; micros = 123 }) false)
    (replicate 5000 0x78)) []) - length (line_text (record { secs = 1700000000; micros = 123 }) false) ≡ 4060

-- a dump is in the way of a dump, and so is an erasure in any dump zone
abbrev pub DumpIsBusy : Type 0
DumpIsBusy =
    (run four_zones (replicate 16384 0) (Boot ∷ Begin (Erase (dump 1)) ∷ dump_begun ∷ [])
    ≡ first_boot ∷ Refuses (Refused Busy) ∷ [])
    × (run four_zones (replicate 16384 0) (Boot ∷ dump_begun ∷ Begin (Erase (dump 1)) ∷ dump_begun ∷ [])
    ≡ first_boot ∷ Refuses (Refused Busy) ∷ [])

-- a dump cut after its line's size and start words, and an append cut after its first byte
abbrev pub dump_and_console : List Operation
dump_and_console =
    Boot ∷ Make (Append pmsg (0x70 ∷ [])) ∷ Begin (Append console abc) ∷ dump_begun
    ∷ Step console 3 ∷ Step (dump 0) 4 ∷ Stop ∷ Boot ∷ []

abbrev pub DumpAndConsoleCut : Type 0
DumpAndConsoleCut =
    (run four_zones (replicate 16384 0) dump_and_console
    ≡ first_boot
    ∷ Boots (
    and_cut (boot (dump 0) Found 15 15 0 0 (Differs 0 15 0)) DumpCall 4 22 (Pair 4) ((0, 0) ∷ [])
    ∷ boot (dump 1) Empty 0 0 0 0 AsTold
    ∷ and_cut (boot console Found 3 3 0 0 (Differs 0 3 0)) AppendCall 3 5 (Pair 2) ((0, 0) ∷ [])
    ∷ boot pmsg Found 1 1 0 0 AsTold ∷ [])
    ∷ [])
    × (records four_zones (left four_zones (replicate 16384 0) dump_and_console)
    ≡ (codes "console-ramoops-0", 3, None) ∷ (codes "pmsg-ramoops-0", 1, None) ∷ [])
    × (contents four_zones (left four_zones (replicate 16384 0) dump_and_console)
    ≡ (0x61 ∷ 0 ∷ 0 ∷ []) ∷ (0x70 ∷ []) ∷ [])
    -- dump-0 has no time line and is erased
    × (slice_range (session_image (left four_zones (replicate 16384 0) dump_and_console)) 0 12
    ≡ signature ++ replicate 8 0)
