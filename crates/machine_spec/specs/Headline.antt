-- What a boot reads of what was told. Of one zone: its stop, what it was told, its cut, and its bytes as
-- they stand now
use Rattle.std.specs.Prelude.{◌≡◌, ℕ, ◌/◌, Bool, false, ◌==◌, List, length, slice_get, Contains, Some, None}
use Rattle.std.specs.List.{list_any}
use Rattle.zone_spec.specs.declared.Zone.{Zone}
use Rattle.zone_spec.specs.declared.Words.{Words}
use Rattle.zone_spec.specs.Parts.{Block}
use Rattle.zone_spec.specs.PartReadings.{words_read}
use Rattle.zone_spec.specs.Reading.{zone_reading, log_places, byte_read}
use Rattle.zone_spec.specs.Told.{Call}
use Rattle.zone_spec.specs.Damage.{IsWithinBounds, IsLogWithinBounds}
use Rattle.zone_spec.specs.Calls.{call_stages}
use Rattle.zone_spec.specs.Pairs.{pairs_from, pair_of}
use Rattle.zone_spec.specs.Touched.{touched_by}
use Rattle.zone_spec.specs.Cut.{Cut, ByCall, words_before}
use Rattle.machine_spec.specs.Zones.{EachZone, zone_bytes}
use Rattle.machine_spec.specs.States.{OffZone, OffState}

-- whether a call on a ring with these words touches the block that a data place is in
abbrev pub is_met : Zone → Words → Call → ℕ → Bool
is_met z w call place = list_any (λ b. b == place / z.block) (touched_by z (call_stages z w call))

-- each place of the ring from before a call, in a block within bounds that the call does not touch, reads its byte
abbrev pub OldPlacesRead : Zone → Words → Call → List ℕ → List ℕ → List ℕ → Type 0
OldPlacesRead z w call told stop now =
    (i place : ℕ) → slice_get (log_places w.start w.size) i ≡ Some place → is_met z w call place ≡ false
    → IsWithinBounds z stop now (Block (place / z.block)) → slice_get told i ≡ Some (byte_read z now place)

-- where the header reads a pair that the call goes through, the log has no place in an untouched block but those
abbrev pub NoOtherPlaces : Zone → Words → Call → List ℕ → Type 0
NoOtherPlaces z w call now =
    (place : ℕ) → Contains (pairs_from (pair_of w) (call_stages z w call)) (pair_of (words_read z now))
    → Contains (log_places (words_read z now).start (words_read z now).size) place → is_met z w call place ≡ false
    → Contains (log_places w.start w.size) place

-- an idle zone whose log is within bounds reads what it was told; in a zone whose call a stop cut, only touched blocks and the
-- header make a difference, whatever became of the header
pub record ReadsLastWritten (z : Zone) (zone : OffZone) (now : List ℕ) : Type 0 where
  pub idle : (told : List ℕ) → zone.told ≡ Some told → zone.cut ≡ None
      → IsLogWithinBounds z zone.stop now (length told) → (zone_reading z now).log ≡ told
  pub places : (told : List ℕ) (cut : Cut) (call : Call) → zone.told ≡ Some told → zone.cut ≡ Some cut
      → cut.by ≡ ByCall call → OldPlacesRead z (words_before z cut) call told zone.stop now
      × NoOtherPlaces z (words_before z cut) call now

-- it is so of each zone of an off state and of its bytes as they stand
abbrev pub EachOffZone : List Zone → OffState → (Zone → OffZone → List ℕ → Type 0) → Type 0
EachOffZone layout off P = EachZone layout off.zones (λ z zone. P z zone (zone_bytes z off.image))
