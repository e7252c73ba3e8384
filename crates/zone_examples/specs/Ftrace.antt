-- Ftrace zones
use Rattle.std.specs.Prelude.{◌≡◌, ℕ, Bool, true, false, List, [], ◌∷◌, ◌++◌, replicate, flat_map, codes, None}
use Rattle.std.specs.List.{range_with_len}
use Rattle.zone_spec.specs.declared.State.TheVariants.{Unsigned, Empty, Found}
use Rattle.zone_spec.specs.declared.Verdict.TheVariants.{NothingTold, AsTold}
use Rattle.zone_spec.specs.Ftrace.{merged}
use Rattle.zone_spec.specs.Told.{told_after, Append as AppendOf}
use Rattle.machine_spec.specs.LiveCalls.{Append}
use Rattle.machine_spec.specs.Operations.{Operation, Boot, Make, Stop}
use Rattle.zone_spec.specs.declared.Zone.{Zone}
use Rattle.zone_spec.specs.declared.Kind.TheVariants.{Ftrace}
use Rattle.zone_spec.specs.Reading.{ZoneReading}
use Rattle.zone_spec.specs.Boot.{is_kept, boot_stores}
use Rattle.zone_examples.specs.Zones.{ftrace, ftrace_zone, two_processors}
use Rattle.zone_examples.specs.Scenes.{signature, then_zeros}
use Rattle.zone_examples.specs.Shown.{Boots, boot, run, left, records, contents}

-- an entry with address 1 and parent 2, and with the two low bytes of its time word: processor and time
abbrev pub entry : ℕ → ℕ → List ℕ
entry time processor = 1 ∷ replicate 7 0 ++ 2 ∷ replicate 7 0 ++ processor ∷ time ∷ replicate 6 0

-- the later zone's entry comes first where the times are equal
abbrev pub two_logs : List Operation
two_logs = Boot ∷ Make (Append (ftrace 0) (entry 5 0 ++ entry 7 0)) ∷ Make (Append (ftrace 1) (entry 5 1)) ∷ Stop
    ∷ Boot ∷ []

abbrev pub TwoProcessorsMerged : Type 0
TwoProcessorsMerged =
    (records two_processors (left two_processors (replicate 4096 0) two_logs)
    ≡ (codes "ftrace-ramoops-0", 72, None) ∷ [])
    × (contents two_processors (left two_processors (replicate 4096 0) two_logs)
    ≡ (entry 5 1 ++ entry 5 0 ++ entry 7 0) ∷ [])

-- an ftrace ring whose start is not its size, and that is not full, is listed once, and not kept
abbrev pub strange_ring : List ℕ
strange_ring = then_zeros 4096 (signature ++ 2 ∷ 0 ∷ 0 ∷ 0 ∷ 5 ∷ 0 ∷ 0 ∷ 0 ∷ 1 ∷ 2 ∷ 3 ∷ 4 ∷ 5 ∷ [])

abbrev pub FtraceRingNotKept : Type 0
FtraceRingNotKept =
    (run two_processors strange_ring (Boot ∷ Stop ∷ Boot ∷ [])
    ≡ Boots (boot (ftrace 0) Found 2 5 0 0 NothingTold ∷ boot (ftrace 1) Unsigned 0 0 0 0 NothingTold ∷ [])
    ∷ Boots (boot (ftrace 0) Empty 0 0 0 0 AsTold ∷ boot (ftrace 1) Empty 0 0 0 0 AsTold ∷ [])
    ∷ [])
    × (records two_processors (left two_processors strange_ring (Boot ∷ [])) ≡ (codes "ftrace-ramoops-0", 0, None) ∷ [])

-- 85 entries are more than the ring holds: the first bytes of the log make no whole entry
abbrev pub FrontOfLogDropped : Type 0
FrontOfLogDropped =
    let entries = flat_map (λ i. entry i 0) (range_with_len 0 85) in
    let last = flat_map (λ i. entry i 0) (range_with_len 1 84) in
    merged (told_after 2036 (AppendOf entries) [] ∷ []) ≡ last

-- of two heads the earlier comes first; of a log's entries each keeps its order
abbrev pub MergeByTime : Type 0
MergeByTime =
    (merged ((entry 3 0 ++ entry 9 0) ∷ (entry 1 1 ++ entry 4 1) ∷ [])
    ≡ entry 1 1 ++ entry 3 0 ++ entry 4 1 ++ entry 9 0)
    × (merged ((0 ∷ 0 ∷ entry 3 0) ∷ (9 ∷ entry 3 1) ∷ (entry 3 2) ∷ []) ≡ entry 3 2 ++ entry 3 1 ++ entry 3 0)

-- which rings are kept: those that can be appended to
abbrev pub reading_of : ℕ → ℕ → ZoneReading
reading_of start size = record {
  state = Found;
  words = record { sig = 0x43474244; start = start; size = size };
  log = [];
  corrected = 0;
  bad = 0;
}

abbrev pub keeps_ring : ℕ → ℕ → Bool
keeps_ring start size = is_kept (ftrace_zone 0) (reading_of start size) Ftrace

abbrev pub FtraceRingsKept : Type 0
FtraceRingsKept =
    (keeps_ring 48 48 ≡ true) × (keeps_ring 2 5 ≡ false) × (keeps_ring 48 2036 ≡ true) × (keeps_ring 0 2036 ≡ true)
    × (keeps_ring 2036 2036 ≡ false)

-- with a tag that makes the signature 0, a zone of zeros is empty, and a boot stores nothing
abbrev pub unsigned_zone : Zone
unsigned_zone = record (ftrace_zone 0) { sig = 0 }

abbrev pub ZerosAreEmpty : Type 0
ZerosAreEmpty =
    (run (unsigned_zone ∷ []) (replicate 2048 0) (Boot ∷ []) ≡ Boots (boot (ftrace 0) Empty 0 0 0 0 NothingTold ∷ [])
    ∷ [])
    × (boot_stores unsigned_zone (replicate 2048 0) ≡ [])
