-- Boots that are stopped
use Rattle.std.specs.Prelude.{◌≡◌, ℕ, List, [], ◌∷◌, ◌++◌, replicate, map, slice_range, slice_index}
use Rattle.zone_spec.specs.declared.State.TheVariants.{Unsigned, Empty, Invalid, Found}
use Rattle.zone_spec.specs.declared.Verdict.TheVariants.{NothingTold, AsTold, Differs}
use Rattle.zone_spec.specs.declared.CallKind.TheVariants.{Erase}
use Rattle.zone_spec.specs.declared.HeaderSeen.TheVariants.{Pair}
use Rattle.zone_spec.specs.Reading.{state_of}
use Rattle.machine_spec.specs.LiveCalls.{Append}
use Rattle.machine_spec.specs.States.{OffZone, Session, Off, Live}
use Rattle.machine_spec.specs.Operations.{Operation, Boot, BootPart, Make, Stop, Flip}
use Rattle.zone_examples.specs.Zones.{console, pmsg, dump, plain_zone, lone_console, small_console, four_small_zones}
use Rattle.zone_examples.specs.Scenes.{abc, signature, then_zeros}
use Rattle.zone_examples.specs.Shown.{Boots, Stops, boot, and_cut, run, left}

-- the erasure of a console zone is cut after its start word: what was told stays
abbrev pub StoppedErasure : Type 0
StoppedErasure =
    run lone_console (replicate 4096 0) (Boot ∷ Make (Append console abc) ∷ Stop ∷ BootPart 1 ∷ Boot ∷ [])
    ≡ Boots (boot console Unsigned 0 0 0 0 NothingTold ∷ [])
    ∷ Stops 1
    ∷ Boots (and_cut (boot console Found 0 3 0 0 AsTold) Erase 1 2 (Pair 1) [] ∷ [])
    ∷ []

-- a first boot: the signature is the first of three stores, and makes no pair
abbrev pub StoppedFirstBoot : Type 0
StoppedFirstBoot =
    run lone_console (replicate 4096 0) (BootPart 1 ∷ Boot ∷ [])
    ≡ Stops 1 ∷ Boots (and_cut (boot console Empty 0 0 0 0 NothingTold) Erase 1 3 (Pair 0) [] ∷ []) ∷ []

-- with more stores than there are, the boot is whole
abbrev pub BootNotStopped : Type 0
BootNotStopped =
    run lone_console (replicate 4096 0) (BootPart 9 ∷ Boot ∷ [])
    ≡ Stops 3 ∷ Boots (boot console Empty 0 0 0 0 AsTold ∷ []) ∷ []

-- with none made and some left, nothing is finished
abbrev pub StoppedBeforeFirstStore : Type 0
StoppedBeforeFirstStore =
    run lone_console (replicate 4096 0) (Boot ∷ Make (Append console abc) ∷ Stop ∷ Flip 12 1 ∷ BootPart 0 ∷ Boot ∷ [])
    ≡ Boots (boot console Unsigned 0 0 0 0 NothingTold ∷ [])
    ∷ Stops 0
    ∷ Boots (boot console Found 3 3 0 0 (Differs 3 3 0) ∷ [])
    ∷ []

-- two zones that are signed and empty, each before one of zeros
abbrev pub mixed : List ℕ
mixed = then_zeros 512 signature ++ then_zeros 512 signature

-- zones before the one that is cut are finished, also without stores; those behind it stay
abbrev pub StoppedWithinSecondZone : Type 0
StoppedWithinSecondZone =
    run four_small_zones mixed (BootPart 1 ∷ Boot ∷ [])
    ≡ Stops 1
    ∷ Boots (
    boot (dump 0) Empty 0 0 0 0 AsTold
    ∷ and_cut (boot (dump 1) Empty 0 0 0 0 NothingTold) Erase 1 3 (Pair 0) []
    ∷ boot console Empty 0 0 0 0 NothingTold
    ∷ boot pmsg Unsigned 0 0 0 0 NothingTold ∷ [])
    ∷ []

-- a zone without stores right behind the last store made stays
abbrev pub StoppedBehindSecondZone : Type 0
StoppedBehindSecondZone =
    run four_small_zones mixed (BootPart 3 ∷ Boot ∷ [])
    ≡ Stops 3
    ∷ Boots (
    boot (dump 0) Empty 0 0 0 0 AsTold
    ∷ boot (dump 1) Empty 0 0 0 0 AsTold
    ∷ boot console Empty 0 0 0 0 NothingTold
    ∷ boot pmsg Unsigned 0 0 0 0 NothingTold ∷ [])
    ∷ []

abbrev pub StoppedBehindLastStore : Type 0
StoppedBehindLastStore =
    run four_small_zones mixed (BootPart 0 ∷ BootPart 6 ∷ Boot ∷ [])
    ≡ Stops 0 ∷ Stops 6
    ∷ Boots (boot (dump 0) Empty 0 0 0 0 AsTold ∷ boot (dump 1) Empty 0 0 0 0 AsTold
    ∷ boot console Empty 0 0 0 0 AsTold ∷ boot pmsg Empty 0 0 0 0 AsTold ∷ [])
    ∷ []

-- a boot without stores finishes every zone, also where its limit is 0
abbrev pub BootWithoutStores : Type 0
BootWithoutStores =
    run small_console (then_zeros 256 signature) (BootPart 0 ∷ Boot ∷ [])
    ≡ Stops 0 ∷ Boots (boot console Empty 0 0 0 0 AsTold ∷ []) ∷ []

-- a zone that was told nothing since its erasure reads as told, also where its signature is gone, or its
-- size above the capacity
abbrev pub UnsignedAsTold : Type 0
UnsignedAsTold =
    (run small_console (replicate 256 0) (Boot ∷ Stop ∷ Flip 0 1 ∷ Boot ∷ [])
    ≡ Boots (boot console Unsigned 0 0 0 0 NothingTold ∷ []) ∷ Boots (boot console Unsigned 0 0 0 0 AsTold ∷ []) ∷ [])
    × (run small_console (replicate 256 0) (Boot ∷ Stop ∷ Flip 9 1 ∷ Boot ∷ [])
    ≡ Boots (boot console Unsigned 0 0 0 0 NothingTold ∷ []) ∷ Boots (boot console Invalid 0 256 0 0 AsTold ∷ []) ∷ [])

-- an image of which nothing is known: every byte 255; a size above the capacity
abbrev pub UnknownHeaders : Type 0
UnknownHeaders =
    (run lone_console (replicate 4096 0xff) (Boot ∷ []) ≡ Boots
    (boot console Unsigned 4294967295 4294967295 0 0 NothingTold ∷ []) ∷ [])
    × (run lone_console (then_zeros 4096 (signature ++ 5 ∷ 0 ∷ 0 ∷ 0 ∷ 0xf5 ∷ 0x0f ∷ 0 ∷ 0 ∷ [])) (Boot ∷ [])
    ≡ Boots (boot console Invalid 5 4085 0 0 NothingTold ∷ []) ∷ [])
    × (state_of (plain_zone console 0) (record { sig = 0x43474244; start = 4084; size = 4084 }) ≡ Found)
    × (state_of (plain_zone console 0) (record { sig = 0x43474244; start = 5; size = 0 }) ≡ Invalid)
    × (state_of (plain_zone console 0) (record { sig = 0x43474244; start = 5; size = 4 }) ≡ Invalid)
    × (state_of (plain_zone console 0) (record { sig = 0x43474244; start = 0; size = 0 }) ≡ Empty)

-- the stops of the zones: a zone that a cut boot finished or was erasing stops with its end, every other
-- stays as it was at the last stop
abbrev pub stops : Session → List (List ℕ)
stops (Live live) = []
stops (Off off) = map (λ (zone : OffZone). zone.stop) off.zones

abbrev pub told_and_flipped : List Operation
told_and_flipped = Boot ∷ Make (Append console abc) ∷ Stop ∷ Flip 12 1 ∷ []

abbrev pub StopsOfCutBoots : Type 0
StopsOfCutBoots =
    (map (λ stop. slice_range stop 4 15) (stops (left small_console (replicate 256 0) told_and_flipped))
    ≡ (3 ∷ 0 ∷ 0 ∷ 0 ∷ 3 ∷ 0 ∷ 0 ∷ 0 ∷ abc) ∷ [])
    × (map (λ stop. slice_range stop 4 15) (stops (left small_console (replicate 256 0)
    (told_and_flipped ++ BootPart 0 ∷ []))) ≡ (3 ∷ 0 ∷ 0 ∷ 0 ∷ 3 ∷ 0 ∷ 0 ∷ 0 ∷ abc) ∷ [])
    × (map (λ stop. slice_range stop 4 15) (stops (left small_console (replicate 256 0)
    (told_and_flipped ++ BootPart 1 ∷ []))) ≡ (0 ∷ 0 ∷ 0 ∷ 0 ∷ 3 ∷ 0 ∷ 0 ∷ 0 ∷ 0x60 ∷ 0x62 ∷ 0x63 ∷ []) ∷ [])
    × (map (λ stop. slice_range stop 4 15) (stops (left small_console (replicate 256 0)
    (told_and_flipped ++ BootPart 2 ∷ []))) ≡ (0 ∷ 0 ∷ 0 ∷ 0 ∷ 0 ∷ 0 ∷ 0 ∷ 0 ∷ 0x60 ∷ 0x62 ∷ 0x63 ∷ []) ∷ [])
    -- one byte of each signed zone flipped: the first zone is finished, the third stays
    × (map (λ stop. slice_index stop 20) (stops (left four_small_zones mixed
    (Flip 20 1 ∷ Flip 532 1 ∷ BootPart 1 ∷ []))) ≡ 1 ∷ 0 ∷ 0 ∷ 0 ∷ [])
