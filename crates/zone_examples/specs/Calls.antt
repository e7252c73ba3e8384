-- Calls of a zone without parity, whole and cut
use Rattle.std.specs.Prelude.{◌≡◌, ℕ, List, [], ◌∷◌, ◌++◌, replicate, slice_range, codes, map, ◌+◌, ◌%◌, None}
use Rattle.std.specs.List.{range_with_len}
use Rattle.zone_spec.specs.declared.State.TheVariants.{Unsigned, Found}
use Rattle.zone_spec.specs.declared.Verdict.TheVariants.{NothingTold, AsTold, Differs}
use Rattle.zone_spec.specs.declared.CallKind.TheVariants.{Append as AppendCall, Erase as EraseCall}
use Rattle.zone_spec.specs.declared.HeaderSeen.TheVariants.{Pair}
use Rattle.zone_spec.specs.Parts.{standing_words}
use Rattle.zone_spec.specs.Reading.{log_places, byte_read}
use Rattle.zone_spec.specs.Told.{Append as AppendOf, Erase as EraseOf, told_after}
use Rattle.zone_spec.specs.Calls.{image_after}
use Rattle.machine_spec.specs.Stop.{session_image}
use Rattle.machine_spec.specs.LiveCalls.{Append, Erase}
use Rattle.machine_spec.specs.Operations.{Operation, Boot, Make, Begin, Step, Stop}
use Rattle.zone_examples.specs.Zones.{console, plain_zone, lone_console, small_console, four_zones}
use Rattle.zone_examples.specs.Scenes.{abc, def, signature}
use Rattle.zone_examples.specs.Shown.{Boots, boot, and_cut, run, left, records, contents}

-- `abc` told, and read by the next boot, which then erases the zone
abbrev pub first_record : List Operation
first_record = Boot ∷ Make (Append console abc) ∷ Stop ∷ Boot ∷ []

abbrev pub FirstConsoleRecord : Type 0
FirstConsoleRecord =
    (run lone_console (replicate 4096 0) first_record
    ≡ Boots (boot console Unsigned 0 0 0 0 NothingTold ∷ [])
    ∷ Boots (boot console Found 3 3 0 0 AsTold ∷ [])
    ∷ [])
    × (records lone_console (left lone_console (replicate 4096 0) first_record)
    ≡ (codes "console-ramoops-0", 3, None) ∷ [])
    × (contents lone_console (left lone_console (replicate 4096 0) first_record) ≡ codes "abc" ∷ [])
    × (slice_range (session_image (left lone_console (replicate 4096 0) first_record)) 0 15
    ≡ signature ++ replicate 8 0 ++ abc)

abbrev pub BytesOfFirstRecord : Type 0
BytesOfFirstRecord =
    let image = session_image (left four_zones (replicate 16384 0) (Boot ∷ Make (Append console abc) ∷ [])) in
    (slice_range image 8192 8207 ≡ 0x44 ∷ 0x42 ∷ 0x47 ∷ 0x43 ∷ 3 ∷ 0 ∷ 0 ∷ 0 ∷ 3 ∷ 0 ∷ 0 ∷ 0 ∷ 0x61 ∷ 0x62 ∷ 0x63 ∷ [])
    × (slice_range image 0 12 ≡ signature ++ replicate 8 0)
    × (slice_range image 4096 4108 ≡ signature ++ replicate 8 0)
    × (slice_range image 12288 12300 ≡ signature ++ replicate 8 0)

-- the size word is stored before the start word
abbrev pub cut_after_size_word : List Operation
cut_after_size_word = Boot ∷ Make (Append console abc) ∷ Begin (Append console def) ∷ Step console 1 ∷ Stop ∷ Boot ∷ []

abbrev pub CutAfterSizeWord : Type 0
CutAfterSizeWord =
    (run lone_console (replicate 4096 0) cut_after_size_word
    ≡ Boots (boot console Unsigned 0 0 0 0 NothingTold ∷ [])
    ∷ Boots (and_cut (boot console Found 3 6 0 0 (Differs 3 6 0)) AppendCall 1 5 (Pair 1) ((0, 0) ∷ []) ∷ [])
    ∷ [])
    × (contents lone_console (left lone_console (replicate 4096 0) cut_after_size_word)
    ≡ (0 ∷ 0 ∷ 0 ∷ 0x61 ∷ 0x62 ∷ 0x63 ∷ []) ∷ [])

-- a console of 256 bytes that was filled, and one byte more: the log is the last 244
abbrev pub letters : ℕ → ℕ → List ℕ
letters first n = map (λ i. 0x61 + i % 26) (range_with_len first n)

abbrev pub wrapped : List Operation
wrapped = Boot ∷ Make (Append console (letters 0 244)) ∷ Make (Append console (0x21 ∷ [])) ∷ []

abbrev pub WrappedRing : Type 0
WrappedRing =
    (run small_console (replicate 256 0) (wrapped ++ Stop ∷ Boot ∷ [])
    ≡ Boots (boot console Unsigned 0 0 0 0 NothingTold ∷ [])
    ∷ Boots (boot console Found 1 244 0 0 AsTold ∷ [])
    ∷ [])
    × (contents small_console (left small_console (replicate 256 0) (wrapped ++ Stop ∷ Boot ∷ []))
    ≡ (letters 1 243 ++ 0x21 ∷ []) ∷ [])

-- an erasure of a full ring that is cut after its start word: the log is the data from place 0 on
abbrev pub cut_erasure : List Operation
cut_erasure = wrapped ++ Begin (Erase console) ∷ Step console 1 ∷ Stop ∷ Boot ∷ []

abbrev pub CutErasureOfFullRing : Type 0
CutErasureOfFullRing =
    (run small_console (replicate 256 0) cut_erasure
    ≡ Boots (boot console Unsigned 0 0 0 0 NothingTold ∷ [])
    ∷ Boots (and_cut (boot console Found 0 244 0 0 (Differs 244 244 0)) EraseCall 1 2 (Pair 1) [] ∷ [])
    ∷ [])
    × (contents small_console (left small_console (replicate 256 0) cut_erasure) ≡ (0x21 ∷ letters 1 243) ∷ [])

-- the same of a console of 4096 bytes that begins full
abbrev pub full : List ℕ → List ℕ
full log = signature ++ 0 ∷ 0 ∷ 0 ∷ 0 ∷ 0xf4 ∷ 0x0f ∷ 0 ∷ 0 ∷ log

abbrev pub and_one_byte : List ℕ → List ℕ → List ℕ
and_one_byte image byte = image_after (plain_zone console 0) (AppendOf byte) image 2

-- their words, the places of the log in order, and the bytes at some of these
abbrev pub WrappedLargeRing : Type 0
WrappedLargeRing =
    let image = and_one_byte (full (replicate 4084 0x61)) (0x62 ∷ []) in
    let words = standing_words (plain_zone console 0) image in
    (words ≡ record { sig = 0x43474244; start = 1; size = 4084 })
    × (log_places words.start words.size ≡ range_with_len 1 4083 ++ 0 ∷ [])
    × (map (λ place. byte_read (plain_zone console 0) image place) (1 ∷ 2 ∷ 2048 ∷ 4083 ∷ 0 ∷ [])
    ≡ 0x61 ∷ 0x61 ∷ 0x61 ∷ 0x61 ∷ 0x62 ∷ [])
    × (told_after 4084 (AppendOf (0x62 ∷ [])) (replicate 4084 0x61) ≡ replicate 4083 0x61 ++ 0x62 ∷ [])

abbrev pub CutErasureOfLargeRing : Type 0
CutErasureOfLargeRing =
    let image = image_after (plain_zone console 0) EraseOf (and_one_byte (full (letters 0 4084)) (0x21 ∷ [])) 1 in
    let words = standing_words (plain_zone console 0) image in
    (words ≡ record { sig = 0x43474244; start = 0; size = 4084 })
    × (log_places words.start words.size ≡ range_with_len 0 4084)
    × (map (λ place. byte_read (plain_zone console 0) image place) (0 ∷ 1 ∷ 2 ∷ 4083 ∷ [])
    ≡ 0x21 ∷ 0x62 ∷ 0x63 ∷ 0x62 ∷ [])
