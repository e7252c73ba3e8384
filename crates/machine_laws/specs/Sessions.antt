-- What holds of every state that a session reaches, and what the told lists are
use Rattle.std.specs.Prelude.{◌≡◌, ◌≢◌, ℕ, ◌<◌, ◌≤◌, List, ◌++◌, length, drop, flat_map, fold, slice_index, bit_xor}
use Rattle.std.specs.Prelude.{Some, None}
use Rattle.zone_spec.specs.declared.Zone.{Zone}
use Rattle.zone_spec.specs.declared.Verdict.TheVariants.{AsTold}
use Rattle.zone_spec.specs.Parts.{AreBytes}
use Rattle.zone_spec.specs.Reading.{zone_reading}
use Rattle.zone_spec.specs.Told.{Call, Append, told_after, last_items}
use Rattle.zone_spec.specs.Verdicts.{verdict_of}
use Rattle.zone_spec.specs.Cut.{Cut, ByCall, words_before}
use Rattle.zone_spec.specs.Layouts.{IsLayout, zones_end}
use Rattle.machine_spec.specs.Zones.{zone_bytes}
use Rattle.machine_spec.specs.States.{OffZone, OffState, Session, Off}
use Rattle.machine_spec.specs.Off.{fresh, flipped}
use Rattle.machine_spec.specs.Operations.{Operation, operated, left_by}
use Rattle.machine_spec.specs.Sound.{IsState, IsOperation, IsReached}
use Rattle.machine_spec.specs.Headline.{EachOffZone, OldPlacesRead}

-- an image is its zones' bytes end to end, and the bytes behind them
abbrev pub ImageIsZonesAndRest : Type 0
ImageIsZonesAndRest = (layout : List Zone) (mem : ℕ) (image : List ℕ) → IsLayout layout mem → length image ≡ mem
    → flat_map (λ z. zone_bytes z image) layout ++ drop (zones_end layout) image ≡ image

-- an image of which nothing is known makes a sound state
abbrev pub FreshIsSound : Type 0
FreshIsSound = (layout : List Zone) (mem : ℕ) (image : List ℕ) → IsLayout layout mem → length image ≡ mem
    → AreBytes image → IsState layout mem (Off (fresh layout image))

-- every operation leaves a sound state sound
abbrev pub OperationsKeepStatesSound : Type 0
OperationsKeepStatesSound = (layout : List Zone) (mem : ℕ) (session : Session) (operation : Operation)
    → IsLayout layout mem → IsState layout mem session → IsOperation operation
    → IsState layout mem (left_by session (operated layout session operation))

-- so every state that a session reaches is sound
abbrev pub StatesAreSound : Type 0
StatesAreSound = (layout : List Zone) (mem : ℕ) (session : Session) → IsLayout layout mem
    → IsReached layout mem session → IsState layout mem session

-- appends one after the other tell the last bytes of all that they wrote
abbrev pub AppendsTellLastBytes : Type 0
AppendsTellLastBytes = (cap : ℕ) (told : List ℕ) (payloads : List (List ℕ)) → length told ≤ cap
    → fold (λ before payload. told_after cap (Append payload) before) told payloads
    ≡ last_items cap (told ++ flat_map (λ payload. payload) payloads)

-- a zone whose bytes are those at its stop reads as told, and at its old ring places where a stop cut
-- its call
pub record ReadsAsAtStop (z : Zone) (zone : OffZone) (now : List ℕ) : Type 0 where
  pub idle : (told : List ℕ) → zone.told ≡ Some told → zone.cut ≡ None → now ≡ zone.stop
      → verdict_of zone.told (zone_reading z now).log ≡ AsTold
  pub places : (told : List ℕ) (cut : Cut) (call : Call) → zone.told ≡ Some told → zone.cut ≡ Some cut
      → cut.by ≡ ByCall call → now ≡ zone.stop
      → OldPlacesRead z (words_before z cut) call told zone.stop now

-- so reads each zone of a sound state
abbrev pub UndamagedReadsTold : Type 0
UndamagedReadsTold = (layout : List Zone) (mem : ℕ) (off : OffState) → IsLayout layout mem
    → IsState layout mem (Off off) → EachOffZone layout off ReadsAsAtStop

-- a flip changes one byte of the image, and neither stop, told list nor cut
abbrev pub FlipChangesOneByte : Type 0
FlipChangesOneByte = (off : OffState) (place mask : ℕ) → let after = flipped off place mask in
    (after.zones ≡ off.zones) × (length after.image ≡ length off.image)
    × ((i : ℕ) → i ≢ place → slice_index after.image i ≡ slice_index off.image i)
    × (place < length off.image → slice_index after.image place ≡ bit_xor (slice_index off.image place) mask)
