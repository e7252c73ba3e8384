-- Where the bytes of logs and records come from
use Rattle.std.specs.Prelude.{◌≡◌, ◌≢◌, ℕ, ◌+◌, ◌/◌, ◌%◌, List, [], ◌∷◌, ◌++◌, length, slice_get, slice_index, Contains}
use Rattle.std.specs.Prelude.{MatchOption, Some}
use Rattle.std.specs.List.{AllByRecursion, fold}
use Rattle.zone_spec.specs.declared.Zone.{Zone}
use Rattle.zone_spec.specs.declared.State.TheVariants.{Unsigned, Found}
use Rattle.code_spec.specs.Code.{nearest}
use Rattle.zone_spec.specs.Zones.{IsValidZone}
use Rattle.zone_spec.specs.Parts.{Block, part_word}
use Rattle.zone_spec.specs.PartReadings.{part_reading, words_read}
use Rattle.zone_spec.specs.Reading.{zone_reading, log_places, blocks_below}
use Rattle.zone_spec.specs.Ftrace.{entries, merge}
use Rattle.zone_spec.specs.Records.{Saved, listed_of, found}

-- each byte of a log is that of its block's nearest codeword, or stands in the image, in a block that is
-- counted bad
abbrev pub LogBytesComeOf : Zone → List ℕ → Type 0
LogBytesComeOf z now = (i place : ℕ) → (zone_reading z now).state ≡ Found
    → slice_get (log_places (words_read z now).start (words_read z now).size) i ≡ Some place
    → MatchOption (nearest z.parity (part_word z now (Block (place / z.block))))
    ((slice_get (zone_reading z now).log i ≡ Some (slice_index now (12 + place)))
    × ((part_reading z now (Block (place / z.block))).bad ≡ 1)
    × Contains (blocks_below z (words_read z now).size) (place / z.block))
    (λ c. slice_get (zone_reading z now).log i ≡ Some (slice_index c (place % z.block)))

-- so do those of every zone
abbrev pub LogBytesCome : Type 0
LogBytesCome = (z : Zone) (now : List ℕ) → IsValidZone z → length now ≡ z.size → LogBytesComeOf z now

-- a zone whose header reads without its signature has no log, and is not found
abbrev pub UnsignedAddsNothing : Type 0
UnsignedAddsNothing = (z : Zone) (now : List ℕ) → (words_read z now).sig ≢ z.sig
    → ((zone_reading z now).state ≡ Unsigned) × ((zone_reading z now).log ≡ [])
    × (found (Some (zone_reading z now)) ≡ [])

-- a zone that was not found adds no record, and no byte to one
abbrev pub NotFoundAddsNothing : Type 0
NotFoundAddsNothing = (before behind : List Saved) (zone : Saved) → found zone.1 ≡ []
    → listed_of (before ++ (zone ∷ behind)) ≡ listed_of (before ++ behind)

-- a group of 24 bytes of one of these logs
abbrev pub IsEntryOf : List (List ℕ) → List ℕ → Type 0
IsEntryOf logs entry = (log : List ℕ) × Contains logs log × Contains (entries log) entry

-- each entry of merged ftrace logs is one of a log's
abbrev pub MergedEntriesCome : Type 0
MergedEntriesCome = (logs : List (List ℕ)) → AllByRecursion (IsEntryOf logs)
    (fold (λ (all : List (List ℕ)) (log : List ℕ). merge all (entries log)) [] logs)
